-- Opening a history (document 01, questions 1, 2 and 4): two lists and a mark in (request P7), what a monitor's and a generator's state
-- have in common out.
use Rattle.std.specs.Prelude.{◌≡◌, false, [], replicate}
use Rattle.curves.specs.Unlimited.{AnyPair}
use Rattle.curves.specs.Questions.{Reply, result, refusal}
use Rattle.bounds.specs.Bounds.{max_horizon, asking}
use Rattle.history.specs.declared.History.{History}
use Rattle.history.specs.States.{View, view_of}

-- What an opening answers.
abbrev pub opening : AnyPair → Reply (Unit {0})
opening p = asking p

-- No tick is held yet.
abbrev pub fresh : AnyPair → View
fresh p = record { pair = p; held = [] }

-- Every field and every entry is 0, and the mark is not set.
unfoldable pub zero_history : History
zero_history =
    record {
      horizon = 0;
      upper = replicate max_horizon 0;
      lower = replicate max_horizon 0;
      unlimited = false;
      held = 0;
      ticks = replicate max_horizon 0;
    }

-- The history that an opening hands out. Where it is not refused, what lies past the horizon and past the held ticks is free, and so are
-- the ceilings of an unlimited pair.
abbrev pub Begun : Reply (Unit {0}) → AnyPair → History → Type 0
Begun (result _) p h = view_of h ≡ fresh p
Begun (refusal n) p h = h ≡ zero_history
