-- Streams (document 01, "The trade's terms"). The theory takes any natural numbers for counts; `Stream` adds document 01's limit.
use Rattle.std.specs.Prelude.{ℕ, zero, suc, ◌+◌, ◌≤◌, ◌<◌, ◌≡◌, List, length, get_or}

-- The largest count of a tick.
abbrev pub count_limit : ℕ
count_limit = 4_294_967_295

-- An unbounded stream: a count for every tick 0, 1, 2 and so on.
pub record Stream : Type 0 where
  pub counts : ℕ → ℕ
  pub within : (tick : ℕ) → counts tick ≤ count_limit

-- The counts of a finite stream by their ticks. A finite stream is the list of its counts.
abbrev pub counts_of : List ℕ → ℕ → ℕ
counts_of xs tick = get_or xs tick 0

-- Begins: the finite stream's counts are the first of the unbounded one.
abbrev pub Begins : List ℕ → (ℕ → ℕ) → Type 0
Begins xs s = (tick : ℕ) → tick < length xs → counts_of xs tick ≡ s tick

-- The sum of a window: the d counts from tick i on.
unfoldable pub sum : (ℕ → ℕ) → ℕ → ℕ → ℕ
sum s i zero = 0
sum s i (suc d) = sum s i d + s (i + d)
