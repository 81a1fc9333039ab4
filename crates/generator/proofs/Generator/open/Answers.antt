-- The answer is that of the questions, and the history follows from it.
use Rattle.generator.proofs.Opening.{opened_begun}
use Rattle.generator.proofs.Generator.open.Goals as goal

pub returns-in-Ok : goal.returns-in-Ok
returns-in-Ok c =
    record { answer = c.ask_opening-opening.ensures; history = opened_begun _ _ c.in-Ok.ensures c.open.ensures.history }
