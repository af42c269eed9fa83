-- Worked examples: small files, byte for byte, with the verdict that document 01 gives each. One list of files and one of
-- verdicts, and one fact, that the verdicts are those of the files; the definition itself computes them.
use Prim.Native.Nat.{ℕ, ◌+◌}
use mathlib.Core.Path.{◌≡◌, refl}
use mathlib.Core.List.{List, [], ◌∷◌, ◌++◌, map}
use lib.ListN.{replicate}
use Rattle.frames.specs.Logic.{below, at_most, equal, pick, either, both, no, one_of, all, any, rising_from, same, rows}
use Rattle.frames.specs.Layout.{byte, u16, u32, length_at, kind_at, next_at, fixed_size, asserts, supposes, lists_symbols, is_statement, class_at, scope_end_at, hyp_count, pair_count, listed_count, lists_from, pairs_from, listed_from, rest_from, rest_size, rest_at, hyps_at, pair_at, pairs_at, symbol_count, symbols_from, symbols_at, typecode_at, variable_at}
use Rattle.frames.specs.Table.{unknown_kind, bad_rest, no_symbols, cut_short, off_layout, bad_record, too_many, name_byte, label_byte, named, used, bad_symbol, bad_label, class_of, constant, variable, within, active, defined, variables, bad_numbers, bad_reference, float_of, float_below, has_float, symbol_given, all_given, lacks_float, second_float, equal_members, bad_assertion, bad_frame, no_proof}
use Rattle.frames.specs.Verdict.{nothing, unless, fault_at, after, refusal, end_verdict, at_end, decided, walk, outcome, verdict, Verdict, Good, Refused}
use Rattle.frames.specs.declared.Refusal.TheVariants.{BadRecord, TooMany, BadSymbol, BadLabel, BadReference, BadFrame, NoProof}

-- the constants `|-`, `T` and `U`, and the variable `x`
abbrev turnstile : List ℕ
turnstile = 5 ∷ 0 ∷ 0 ∷ 0 ∷ 1 ∷ 0 ∷ 0 ∷ 124 ∷ 45 ∷ []

abbrev c : List ℕ
c = 4 ∷ 0 ∷ 0 ∷ 0 ∷ 1 ∷ 0 ∷ 0 ∷ 84 ∷ []

abbrev U : List ℕ
U = 4 ∷ 0 ∷ 0 ∷ 0 ∷ 1 ∷ 0 ∷ 0 ∷ 85 ∷ []

abbrev x : List ℕ
x = 4 ∷ 0 ∷ 0 ∷ 0 ∷ 1 ∷ 0 ∷ 1 ∷ 120 ∷ []

-- a constant with a name of this many bytes
abbrev long_name : ℕ → List ℕ
long_name n = (3 + n) ∷ 0 ∷ 0 ∷ 0 ∷ 1 ∷ 0 ∷ 0 ∷ replicate n 65

-- `f $f T x` with this scope end, and `g $f T x` with none
abbrev f : ℕ → List ℕ
f end = 11 ∷ 0 ∷ 0 ∷ 0 ∷ 2 ∷ 0 ∷ end ∷ 0 ∷ 0 ∷ 0 ∷ 0 ∷ 0 ∷ 1 ∷ 0 ∷ 102 ∷ []

abbrev f∞ : List ℕ
f∞ = 11 ∷ 0 ∷ 0 ∷ 0 ∷ 2 ∷ 0 ∷ 255 ∷ 255 ∷ 255 ∷ 255 ∷ 0 ∷ 0 ∷ 1 ∷ 0 ∷ 102 ∷ []

abbrev g∞ : List ℕ
g∞ = 11 ∷ 0 ∷ 0 ∷ 0 ∷ 2 ∷ 0 ∷ 255 ∷ 255 ∷ 255 ∷ 255 ∷ 0 ∷ 0 ∷ 1 ∷ 0 ∷ 103 ∷ []

-- `e $e T x` with no scope end
abbrev e∞ : List ℕ
e∞ = 13 ∷ 0 ∷ 0 ∷ 0 ∷ 3 ∷ 0 ∷ 255 ∷ 255 ∷ 255 ∷ 255 ∷ 2 ∷ 0 ∷ 0 ∷ 0 ∷ 1 ∷ 0 ∷ 101 ∷ []

-- `p $p T` and the record of its proof `p`
abbrev $p : List ℕ
$p = 11 ∷ 0 ∷ 0 ∷ 0 ∷ 5 ∷ 0 ∷ 0 ∷ 0 ∷ 0 ∷ 0 ∷ 1 ∷ 0 ∷ 0 ∷ 0 ∷ 112 ∷ []

abbrev proof : List ℕ
proof = 3 ∷ 0 ∷ 0 ∷ 0 ∷ 6 ∷ 0 ∷ 112 ∷ []

-- `T $a T`
abbrev Ta : List ℕ
Ta = 11 ∷ 0 ∷ 0 ∷ 0 ∷ 4 ∷ 0 ∷ 0 ∷ 0 ∷ 0 ∷ 0 ∷ 1 ∷ 0 ∷ 0 ∷ 0 ∷ 84 ∷ []

-- `a $a T x` that lists no hypothesis, that lists the hypothesis 0, and that lists 0 and 1
abbrev a : List ℕ
a = 13 ∷ 0 ∷ 0 ∷ 0 ∷ 4 ∷ 0 ∷ 0 ∷ 0 ∷ 0 ∷ 0 ∷ 2 ∷ 0 ∷ 0 ∷ 0 ∷ 1 ∷ 0 ∷ 97 ∷ []

abbrev a0 : List ℕ
a0 = 17 ∷ 0 ∷ 0 ∷ 0 ∷ 4 ∷ 0 ∷ 1 ∷ 0 ∷ 0 ∷ 0 ∷ 2 ∷ 0 ∷ 0 ∷ 0 ∷ 0 ∷ 0 ∷ 0 ∷ 0 ∷ 1 ∷ 0 ∷ 97 ∷ []

abbrev a01 : List ℕ
a01 = 21 ∷ 0 ∷ 0 ∷ 0 ∷ 4 ∷ 0 ∷ 2 ∷ 0 ∷ 0 ∷ 0 ∷ 2 ∷ 0 ∷ 0 ∷ 0 ∷ 0 ∷ 0 ∷ 1 ∷ 0 ∷ 0 ∷ 0 ∷ 0 ∷ 0 ∷ 1 ∷ 0 ∷ 97 ∷ []

-- `a $a T` that lists the pair of this symbol and itself
abbrev twice : ℕ → List ℕ
twice s = 15 ∷ 0 ∷ 0 ∷ 0 ∷ 4 ∷ 0 ∷ 0 ∷ 0 ∷ 1 ∷ 0 ∷ 1 ∷ 0 ∷ s ∷ 0 ∷ s ∷ 0 ∷ 0 ∷ 0 ∷ 97 ∷ []

-- a $a whose 65 hypotheses do not fit
abbrev short : List ℕ
short = 11 ∷ 0 ∷ 0 ∷ 0 ∷ 4 ∷ 0 ∷ 65 ∷ 0 ∷ 0 ∷ 0 ∷ 1 ∷ 0 ∷ 0 ∷ 0 ∷ 97 ∷ []

-- and one whose 65 hypotheses fit; its label `$` is no label
abbrev many : List ℕ
many = 15 ∷ 1 ∷ 0 ∷ 0 ∷ 4 ∷ 0 ∷ 65 ∷ 0 ∷ 0 ∷ 0 ∷ 1 ∷ 0 ∷ (replicate 260 0 ++ (0 ∷ 0 ∷ 36 ∷ []))

abbrev pub files : List (List ℕ)
files =
    []
    ∷ turnstile
    ∷ (c ++ U)
    ∷ long_name 64
    ∷ (c ++ $p ++ proof)
    ∷ (c ++ Ta)
    ∷ (c ++ x ++ f 0)
    ∷ (c ++ x ++ f 2 ++ a0)
    ∷ (c ++ x ++ f∞ ++ g∞)
    ∷ (c ++ x ++ f∞ ++ e∞ ++ a01)
    ∷ (0 ∷ [])
    ∷ long_name 0
    ∷ long_name 65
    ∷ (c ++ short)
    ∷ (c ++ $p ++ (0 ∷ []))
    ∷ (c ++ many)
    ∷ (c ++ c)
    ∷ (c ++ $p ++ c)
    ∷ (c ++ Ta ++ Ta)
    ∷ f∞
    ∷ (c ++ x ++ f 1 ++ a0)
    ∷ (c ++ x ++ twice 0)
    ∷ (c ++ x ++ twice 1)
    ∷ (c ++ x ++ a)
    ∷ (c ++ x ++ f∞ ++ g∞ ++ a01)
    ∷ (c ++ x ++ e∞ ++ f∞ ++ a01)
    ∷ (c ++ $p ++ U)
    ∷ (c ++ $p)
    ∷ (c ++ proof)
    ∷ []

abbrev pub verdicts : List Verdict
verdicts =
    Good 0 0
    ∷ Good 1 0
    ∷ Good 2 0
    ∷ Good 1 0
    ∷ Good 1 1
    ∷ Good 1 1
    ∷ Good 2 1
    ∷ Good 2 2
    ∷ Good 2 2
    ∷ Good 2 3
    ∷ Refused BadRecord 0
    ∷ Refused BadRecord 0
    ∷ Refused BadRecord 0
    ∷ Refused BadRecord 8
    ∷ Refused BadRecord 23
    ∷ Refused TooMany 8
    ∷ Refused BadSymbol 8
    ∷ Refused BadSymbol 23
    ∷ Refused BadLabel 23
    ∷ Refused BadReference 0
    ∷ Refused BadReference 31
    ∷ Refused BadReference 16
    ∷ Refused BadFrame 16
    ∷ Refused BadFrame 16
    ∷ Refused BadFrame 46
    ∷ Refused BadFrame 48
    ∷ Refused NoProof 23
    ∷ Refused NoProof 23
    ∷ Refused NoProof 8
    ∷ []

pub examples : map verdict files ≡ verdicts
unfolding below at_most equal pick either both no one_of all any rising_from same rows byte u16 u32 length_at kind_at next_at fixed_size asserts supposes lists_symbols is_statement class_at scope_end_at hyp_count pair_count listed_count lists_from pairs_from listed_from rest_from rest_size rest_at hyps_at pair_at pairs_at symbol_count symbols_from symbols_at typecode_at variable_at unknown_kind bad_rest no_symbols cut_short off_layout bad_record too_many name_byte label_byte named used bad_symbol bad_label class_of constant variable within active defined variables bad_numbers bad_reference float_of float_below has_float symbol_given all_given lacks_float second_float equal_members bad_assertion bad_frame no_proof nothing unless fault_at after refusal end_verdict at_end decided walk outcome verdict
examples = refl
