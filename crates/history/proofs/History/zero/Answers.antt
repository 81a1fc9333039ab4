-- Each of its arrays is one of zeros.
use Rattle.laws.proofs.Base.{refl}
use Rattle.history.specs.Opening.{zero_history}
use Rattle.history.proofs.History.zero.Goals as goal

pub returns : goal.returns
unfolding zero_history
returns c = refl
