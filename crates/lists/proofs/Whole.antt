-- A list that is copied over one of its own length takes its place; over a longer one, it takes its beginning.
-- Assumes nothing.
use Rattle.laws.proofs.Base.{ℕ, ◌≤◌, ◌≡◌, ◌∙◌, Bool, List, ◌++◌, length, drop, take_all}
use Rattle.laws.proofs.Copying.{over_whole}
use Rattle.lists.specs.Copying.{Copied}

module _ {from found left : List ℕ} {same : Bool} (c : Copied from found left same) where
  pub whole : length found ≡ length from → left ≡ from
  whole e = c.entries ∙ over_whole from found e

  pub beginning : length from ≤ length found → left ≡ from ++ drop (length from) found
  beginning h = c.entries ∙ rw (take_all (length found) from h)
