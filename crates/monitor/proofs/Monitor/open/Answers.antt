-- The answer is that of the questions and of closing, and the state follows from it.
use borrow.Author.Rules.{rules}
use Rattle.monitor.proofs.Opening.{opened_state, refused_state}
use Rattle.monitor.proofs.Monitor.open.Goals as goal

pub returns-in-Ok : goal.returns-in-Ok
returns-in-Ok c =
    record {
      answer = c.ask-opening.ensures.answer;
      state = opened_state _ _ _ _ (search rules) (search rules) c.in-Ok.ensures c.open.ensures.history;
    }

pub returns-in-Err : goal.returns-in-Err
returns-in-Err c =
    record {
      answer = c.ask-opening.ensures.answer;
      state = refused_state _ _ _ _ _ c.in-Err.ensures c.zero-history.ensures;
    }
