-- `run::letters::higher_letter` meets its contract.
use Rattle.run.proofs.Lettering.{higher-go, higher-stop}
use Rattle.run.proofs.letters.higher_letter.Goals as goal

pub returns-then-next-lt-K_LIMIT : goal.returns-then-next-lt-K_LIMIT
returns-then-next-lt-K_LIMIT c = higher-go c.if-next-lt-K_LIMIT.true

pub returns : goal.returns
returns c = higher-stop c.if-next-lt-K_LIMIT.false
