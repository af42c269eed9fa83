-- The facts about the symbols of a good file's database: each follows from the row that judged the symbol's record.
use Prim.Native.Nat.{ℕ, zero, suc, ◌≤◌, ◌<◌}
use mathlib.Core.Path.{◌≡◌, refl}
use mathlib.Core.Bool.{Bool}
use mathlib.Core.Logic.{◌⊎◌, inl, inr}
use mathlib.Core.List.{List}
use native.Mathlib.Omega.{arith}
use lib.ListN.{length, get_or}
use Rattle.frames.specs.Layout.{kind_at, class_at, rest_at}
use Rattle.frames.specs.Table.{name_byte}
use Rattle.frames.specs.Database.{symbol_at}
use Rattle.frames.specs.Facts.{SymbolFacts}
use Rattle.frames.proofs.Chains.{below_false, equal-yes}
use Rattle.frames.proofs.Tells.{both_false, all-member}
use Rattle.frames.proofs.Fine.{record-well-formed, limits-kept}
use Rattle.facts.proofs.Rows.{symbol-fresh}
use Rattle.facts.proofs.History.{History}
use Rattle.facts.proofs.Shapes.{had-room}
use Rattle.facts.proofs.Texts.{rest-sized, name-byte, fresh-differ}

-- a class that is not above 1 is 0 or 1
class_cases : (k : ℕ) → k ≤ 1 → (k ≡ 0) ⊎ (k ≡ 1)
class_cases zero h = inl refl
class_cases (suc zero) h = inr refl
class_cases (suc (suc k)) h = absurd (omega arith)

module _ (f syms stmts : List ℕ) (owed : Bool) (o : ℕ) (past : History f syms stmts owed o) where
  -- at most 4,096 symbols: the last one had room
  pub symbols_few : length syms ≤ 4096
  symbols_few =
      had-room syms 4096
      (λ s h. let j = past.symbol s h in (limits-kept f _ _ _ j.faultless.limit_row).symbol_room j.kind)

  -- the record of each symbol
  pub symbol-record : (s : ℕ) → s < length syms → SymbolFacts (symbol_at f (get_or syms s 0))
  unfolding symbol_at
  symbol-record s h =
      let j = past.symbol s h in
      let w = record-well-formed f (get_or syms s 0) j.faultless.record_row in
      let k : kind_at f (get_or syms s 0) ≡ 1 = j.kind in
      let size = rest-sized f (get_or syms s 0) w (λ e. omega arith) in
      let fresh = symbol-fresh f _ _ j.faultless.symbol_row k in
      record {
        class = class_cases (class_at f (get_or syms s 0)) (below_false _ _ (both_false _ _ w.class (equal-yes k)));
        name_some = size.some;
        name_size = size.most;
        name_bytes = λ b m. name-byte b (all-member name_byte _ fresh.bytes m);
      }

  -- no two names are the same
  pub names_apart : (s t : ℕ) → s < length syms → t < length syms → rest_at f (get_or syms s 0) ≡ rest_at f (get_or syms t 0) → s ≡ t
  names_apart =
      fresh-differ f syms (λ i h. let j = past.symbol i h in (symbol-fresh f _ _ j.faultless.symbol_row j.kind).unused)
