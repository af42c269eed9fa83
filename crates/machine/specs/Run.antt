-- The run of a proof's text: after the test for bad bytes, a fold over its bytes that never looks ahead. A token is judged at the divider
-- or the end after it, a letter at once.
use Rattle.std.specs.Prelude.{ℕ, suc, ◌+◌, ◌-◌, ◌*◌, Bool, true, false, List, [], ◌∷◌, ◌++◌, length}
use Rattle.std.proofs.Math.Option.{none}
use Rattle.book.specs.Book.{Expression}
use Rattle.frames.specs.Logic.{below, equal, pick, no, any, same}
use Rattle.frames.specs.Database.{Database}
use Rattle.frames.specs.Facts.{statement_of}
use Rattle.machine.specs.Chain.{Result, fine, stop, unless, bind}
use Rattle.machine.specs.Answer.{Answer, accepted, refused}
use Rattle.machine.specs.Ground.{expression_of, mandatory}
use Rattle.machine.specs.Reading.{divider, bad_byte, letter, opening, closing, question, Parts, split}
use Rattle.machine.specs.declared.Letter.{Letter}
use Rattle.machine.specs.declared.Letter.TheVariants.{Last, Higher, Save, Incomplete, Ignored}
use Rattle.machine.specs.Memory.{Room, Proved, Entry, Memory, save_top, give_local}
use Rattle.machine.specs.Prepare.{greatest_variables, numbered, prepare_roster, preload, prepare_place, prepare_normal}
use Rattle.machine.specs.Apply.{run_ready}
use Rattle.machine.specs.declared.Refusal.TheVariants.{BadByte, ProofUnterminatedRoster, ProofMalformedVarint, ProofInvalidSave, ProofIncomplete, ProofExcessEnd, ProofNoSteps, ProofWrongTypeEnd, ProofWrongExprEnd, TooManyVariables}

-- how the text is read on: no token yet; a normal proof; in the roster; in the letters, with k and whether `Z` may come
pub data Mode : Type 0 where
  beginning : Mode
  normal : Mode
  in_roster : Mode
  in_letters : ℕ → Bool → Mode

-- where a run stands: what it holds, how it reads on, the token so far, and how many bytes were read
pub record Standing : Type 0 where
  pub memory : Memory
  pub mode : Mode
  pub token : List ℕ
  pub at : ℕ

pub data State : Type 0 where
  going : Standing → State
  over : Answer → State

-- a refusal ends the run, at this place and with these steps completed; what comes out goes on
unfoldable pub settle : {A : Type 0} → Result A → ℕ → ℕ → (A → State) → State
settle (fine x) at steps next = next x
settle (stop why) at steps next = over (refused why at steps)

-- the run goes on after the byte at `at`, with no token begun
unfoldable pub go_on : ℕ → Mode → Memory → State
go_on at mode m = going (record { memory = m; mode = mode; token = []; at = suc at })

-- `A`..`T`: k = 20k + 0..19, run place k, k = 0
unfoldable pub step_at : Database → ℕ → Room → Memory → ℕ → Result Memory
step_at db p room m k = bind (prepare_place m k) (run_ready db p room none)

-- k must stay below this
abbrev pub k_limit : ℕ
k_limit = 214748363

-- a letter
unfoldable pub on_letter : Database → ℕ → Room → Memory → ℕ → Bool → ℕ → Letter → State
on_letter db p room m k can_save at (Last d) =
    settle (step_at db p room m (20 * k + d)) at m.steps (go_on at (in_letters 0 true))
on_letter db p room m k can_save at (Higher d) =
    settle (unless (no (below (5 * k + d) k_limit)) ProofMalformedVarint (fine m)) at m.steps (go_on at (in_letters (5 * k + d) false))
on_letter db p room m k can_save at Save =
    settle (unless (no can_save) ProofInvalidSave (save_top room m m.stack)) at m.steps (go_on at (in_letters k false))
on_letter db p room m k can_save at Incomplete =
    over (refused (pick (below 0 k) ProofMalformedVarint ProofIncomplete) at m.steps)
on_letter db p room m k can_save at Ignored = go_on at (in_letters k can_save) m

-- after a normal step: its local label, at the token's place; the step counts
unfoldable pub after_step : Room → Parts → ℕ → (Memory → State) → Memory → State
after_step room token from next m = settle (give_local room m token.local) from m.steps next

-- a normal token from `from` on: `?` alone is 24; else it is prepared and run
unfoldable pub on_parts : Database → ℕ → Room → Memory → ℕ → Bool → Parts → (Memory → State) → State
on_parts db p room m from is_unknown token next =
    settle (unless is_unknown ProofIncomplete (bind (prepare_normal db p room m token) (run_ready db p room token.mark))) from m.steps
    (after_step room token from next)

unfoldable pub on_normal : Database → ℕ → Room → Memory → ℕ → List ℕ → (Memory → State) → State
on_normal db p room m from token next = on_parts db p room m from (same token question) (split token) next

-- a whole token, judged by the mode; `next` goes on from the mode and the memory after it. `(` as the first token begins a compressed
-- proof, `)` ends the roster; in the letters there are no tokens (the last clause is never met)
unfoldable pub on_token : Database → ℕ → Room → Memory → Mode → ℕ → List ℕ → (Mode → Memory → State) → State
on_token db p room m beginning from token next =
    pick (same token opening)
    (settle (preload db room (statement_of db p).hyps m) from m.steps (next in_roster))
    (on_normal db p room m from token (next normal))
on_token db p room m normal from token next = on_normal db p room m from token (next normal)
on_token db p room m in_roster from token next =
    pick (same token closing)
    (next (in_letters 0 false) m)
    (settle (prepare_roster db p room m token) from m.steps (next in_roster))
on_token db p room m (in_letters k can_save) from token next = next (in_letters k can_save) m

-- the token so far, if there is one, is whole; the byte at `at` comes after it
unfoldable pub end_token : Database → ℕ → Room → Memory → Mode → ℕ → List ℕ → (Mode → Memory → State) → State
end_token db p room m mode at [] next = next mode m
end_token db p room m mode at (b ∷ bs) next = on_token db p room m mode (at - length (b ∷ bs)) (b ∷ bs) next

-- a byte before the letters: a divider ends the token, any other byte is one more of it
unfoldable pub on_plain : Database → ℕ → Room → Memory → Mode → List ℕ → ℕ → ℕ → State
on_plain db p room m mode token at b =
    pick (divider b)
    (end_token db p room m mode at token (go_on at))
    (going (record { memory = m; mode = mode; token = token ++ (b ∷ []); at = suc at }))

unfoldable pub by_mode : Database → ℕ → Room → Memory → Mode → List ℕ → ℕ → ℕ → State
by_mode db p room m (in_letters k can_save) token at b = on_letter db p room m k can_save at (letter b)
by_mode db p room m beginning token at b = on_plain db p room m beginning token at b
by_mode db p room m normal token at b = on_plain db p room m normal token at b
by_mode db p room m in_roster token at b = on_plain db p room m in_roster token at b

-- one byte
unfoldable pub on_byte : Database → ℕ → Room → State → ℕ → State
on_byte db p room (over a) b = over a
on_byte db p room (going s) b = by_mode db p room s.memory s.mode s.token s.at b

-- the bytes one after another
unfoldable pub on_bytes : Database → ℕ → Room → State → List ℕ → State
on_bytes db p room s [] = s
on_bytes db p room s (b ∷ bs) = on_bytes db p room (on_byte db p room s b) bs

-- one entry must be left, and it must be the claim: 41, 42
unfoldable pub is_claim : Expression → Proved → Result Proved
is_claim claim x =
    unless (no (equal x.expression.typecode claim.typecode)) ProofWrongTypeEnd
    (unless (no (same x.expression.symbols claim.symbols)) ProofWrongExprEnd
    (fine x))

-- what is left on the stack at the end: 39, 40, 41, 42
unfoldable pub only_entry : Expression → List Entry → Result Proved
only_entry claim [] = stop ProofNoSteps
only_entry claim (e ∷ []) = is_claim claim e.proved
only_entry claim (e ∷ f ∷ es) = stop ProofExcessEnd

unfoldable pub accept : ℕ → Memory → Proved → State
accept at m x = over (accepted at m.steps m.consumed x.tree)

-- the end of the text, in each mode: an unfinished roster is 21, an unfinished k is 22
unfoldable pub unfinished : Mode → Result Proved → Result Proved
unfinished beginning rest = rest
unfinished normal rest = rest
unfinished in_roster rest = stop ProofUnterminatedRoster
unfinished (in_letters k can_save) rest = unless (below 0 k) ProofMalformedVarint rest

unfoldable pub finish : Database → ℕ → ℕ → Mode → Memory → State
finish db p at mode m =
    settle (unfinished mode (only_entry (expression_of db p) m.stack)) at m.steps (accept at m)

-- the end of the text: the last token is whole, then the findings at the end
unfoldable pub on_end : Database → ℕ → Room → State → State
on_end db p room (over a) = over a
on_end db p room (going s) =
    end_token db p room s.memory s.mode s.at s.token (finish db p s.at)

-- the variables numbered before any token: mandatory ones in $f order, then pair members as first met
unfoldable pub all_numbered : List ℕ → List ℕ → List ℕ
all_numbered vs [] = vs
all_numbered vs (x ∷ xs) = all_numbered (numbered vs x) xs

unfoldable pub members : List (ℕ × ℕ) → List ℕ
members [] = []
members (q ∷ qs) = q.0 ∷ q.1 ∷ members qs

unfoldable pub first_variables : Database → ℕ → List ℕ
first_variables db p =
    all_numbered (all_numbered [] (mandatory db (statement_of db p).hyps)) (members (statement_of db p).pairs)

-- at the start nothing is held but those variables
unfoldable pub fresh : List ℕ → Memory
fresh vs = record { variables = vs; pool = 0; places = []; locals = []; stack = []; steps = 0; consumed = 0 }

unfoldable pub begin : Memory → State
begin m = going (record { memory = m; mode = beginning; token = []; at = 0 })

-- before any token: 20, then 44, place 0
unfoldable pub admitted : Database → ℕ → List ℕ → Result Memory
admitted db p text =
    unless (any bad_byte text) BadByte
    (unless (below greatest_variables (length (first_variables db p))) TooManyVariables
    (fine (fresh (first_variables db p))))

unfoldable pub start : Database → ℕ → List ℕ → State
start db p text = settle (admitted db p text) 0 0 begin

-- the run of a text as the proof of statement p; where it ends
unfoldable pub run : Database → ℕ → Room → List ℕ → State
run db p room text = on_end db p room (on_bytes db p room (start db p text) text)
