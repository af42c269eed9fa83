-- What the program answers: the verdict on an input of at most 65,536 bytes, and 2 at place 0 on a longer one.
use Rattle.std.specs.Prelude.{ℕ, cond, List, ltb, length}
use Rattle.frames.specs.declared.Refusal.TheVariants.{TooMany}
use Rattle.frames.specs.Verdict.{Verdict, Refused, verdict}

-- the verdict that is written for an input
unfoldable pub answer_of : List ℕ → Verdict
answer_of input = cond (ltb 65536 (length input)) (Refused TooMany 0) (verdict input)
