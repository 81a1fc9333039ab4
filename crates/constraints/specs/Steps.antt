-- What the private functions of this crate promise each other. `read`'s promise cites nothing of it.
use Rattle.std.specs.Prelude.{ℕ, ◌-◌, ◌*◌, ◌≤◌, ◌<◌, min, max, ◌≡◌, Option, Some, None, unwrap_or, option_map, option_and_then, Result, Ok, Err}
use Rattle.std.specs.Prelude.{List, [], map, get_or, set}
use Rattle.laws.specs.Ranges.{table}
use Rattle.laws.specs.Tests.{Each}
use Rattle.curves.specs.Pairs.{Pair, pair_of}
use Rattle.curves.specs.Unlimited.{AnyPair, limited, unlimited, mark_of}
use Rattle.curves.specs.Questions.{AllYes, FirstNo}
use Rattle.bounds.specs.Bounds.{max_horizon, RoomFor}
use Rattle.csv_text.specs.Text.{Bytes}
use Rattle.csv_text.specs.Records.{Most, none, up_to, most_in, MostWithin, Constraint, constraint_of, message_limit, InRange}
use Rattle.records.specs.declared.Record.{Record}
use Rattle.constraints.specs.Constraints.{named, largest_window, smallest_most}
use Rattle.constraints.specs.Reading.{record_questions, put_first}
use Rattle.constraints.specs.Answers.{reading_refusal_number}
use Rattle.constraints.specs.declared.Reading.{Reading}
use Rattle.constraints.specs.declared.ReadingRefusal.{ReadingRefusal}
use Rattle.constraints.specs.declared.ReadingRefusal.TheVariants.{HeaderLine, RecordForm, FigureRange, WindowAgain, NoRecord, ResultLength}
use Rattle.constraints.specs.declared.table.Row.{Row}
use Rattle.constraints.specs.declared.table.Table.{Table}

-- ---- the table
-- A most, where there is one, as a number.
abbrev pub given : Most → Option ℕ
given none = None
given (up_to m) = Some m

-- What a constraint names for its window.
abbrev pub row_of : Constraint → Option Row
row_of c = Some (record { least = c.least; most = given c.most })

-- A table holds the constraints cs, which are in range.
pub record TableHolds (t : Table) (cs : List Constraint) : Type 0 where
  pub ranges : Each InRange cs
  pub horizon : t.horizon ≡ largest_window cs
  pub smallest : most_in t.smallest ≡ smallest_most cs
  pub rows : t.rows ≡ table (named row_of None cs) max_horizon

-- The smaller of two mosts, where the second may be missing, and the first too.
abbrev pub smaller_given : Option ℕ → Option ℕ → Option ℕ
smaller_given None y = y
smaller_given (Some m) None = Some m
smaller_given (Some m) (Some n) = Some (min m n)

-- The table with a record's constraint more.
abbrev pub with : Table → Record → Table
with t r =
    record {
      horizon = max t.horizon r.window;
      smallest = smaller_given t.smallest r.most;
      rows = set t.rows (r.window - 1) (Some (record { least = r.least; most = r.most }));
    }

abbrev pub Added : Table → Table → Record → Result (Unit {0}) ReadingRefusal → Type 0
Added t t' r (Ok u) = (get_or t.rows (r.window - 1) None ≡ None) × (t' ≡ with t r)
Added t t' r (Err e) = (¬ (get_or t.rows (r.window - 1) None ≡ None)) × (e ≡ WindowAgain)

-- A window of the table, and its least and its ceiling by the rows.
abbrev pub InTable : ℕ → Type 0
InTable d = (1 ≤ d) × (d ≤ max_horizon)

abbrev pub least_in : List (Option Row) → ℕ → ℕ
least_in rows d = unwrap_or (option_map (λ r. r.least) (get_or rows (d - 1) None)) 0

abbrev pub ceiling_in : ℕ → List (Option Row) → ℕ → ℕ
ceiling_in s rows d = unwrap_or (option_and_then (λ r. r.most) (get_or rows (d - 1) None)) (d * s)

-- The pair of the constraints that a table holds, by their smallest most.
abbrev pub pair_by : Option ℕ → Table → AnyPair
pair_by None t = unlimited t.horizon (table (least_in t.rows) t.horizon)
pair_by (Some s) t = limited (pair_of (table (ceiling_in s t.rows) t.horizon) (table (least_in t.rows) t.horizon))

abbrev pub pair_in : Table → AnyPair
pair_in t = pair_by t.smallest t

-- A table of at most 256 windows, whose ceilings fit into 32 bits.
abbrev pub Sized : Table → Type 0
Sized t = (t.horizon ≤ max_horizon) × MostWithin message_limit (most_in t.smallest)

-- ---- the text
-- What the records rs were found to be.
abbrev pub ScannedAs : List Bytes → Table → Result (Unit {0}) ReadingRefusal → Type 0
ScannedAs rs t (Ok u) = AllYes (record_questions [] rs) × TableHolds t (map constraint_of rs)
ScannedAs rs t (Err e) = FirstNo (record_questions [] rs) (reading_refusal_number e)

-- What became of the table of all constraints.
abbrev pub Delivered : Table → Pair → Pair → Result Reading ReadingRefusal → Type 0
Delivered t found left (Ok r) =
    (1 ≤ t.horizon) × RoomFor t.horizon found × (r.horizon ≡ t.horizon) × (r.unlimited ≡ mark_of (pair_in t))
    × (left ≡ put_first t.horizon (pair_in t) found)
Delivered t found left (Err NoRecord) = (t.horizon < 1) × (left ≡ found)
Delivered t found left (Err ResultLength) = (1 ≤ t.horizon) × (¬ RoomFor t.horizon found) × (left ≡ found)
Delivered t found left (Err HeaderLine) = ⊥
Delivered t found left (Err RecordForm) = ⊥
Delivered t found left (Err FigureRange) = ⊥
Delivered t found left (Err WindowAgain) = ⊥
