-- A file with another proof record: what stands before it stays in its place, what stands after it is moved, and the new record has no fault.
use Rattle.std.proofs.Common.{None}
use Prim.Native.Nat.{ℕ, ◌+◌, ◌-◌, ◌*◌, ◌/◌, ◌%◌, ◌≤◌, ◌<◌}
use mathlib.Core.Path.{◌≡◌, refl, sym, ap, ◌∙◌}
use mathlib.Core.Bool.{Bool, true, false}
use mathlib.Core.List.{List, [], ◌∷◌, ◌++◌}
use native.Mathlib.Omega.{arith}
use native.Mathlib.Nat.{div-add-mod'}
use lib.ListN.{length, take, drop, get_or, length-append, length-drop, get_or-append}
use lib.Seq.{length-take-le, get_or-take, get_or-drop, get_or-append-add, ext_get_or}
use Rattle.frames.specs.Logic.{below, equal, pick, either, both, no}
use Rattle.frames.specs.Layout.{byte, u16, u32, length_at, kind_at, next_at, fixed_size, asserts, supposes, lists_symbols, is_statement, hyp_count, pair_count, listed_count, lists_from, pairs_from, listed_from, rest_from, rest_size, rest_at}
use Rattle.frames.specs.Table.{unknown_kind, bad_rest, no_symbols, cut_short, off_layout, bad_record, too_many, bad_symbol, bad_label, bad_reference, bad_frame, no_proof}
use Rattle.frames.specs.Verdict.{fault_at}
use Rattle.frames.proofs.Chains.{below-no, one_later, one_last, unless-skip}
use Rattle.frames.proofs.Fine.{WellFormed}
use Rattle.machine.specs.Files.{two, four, record_of, proof}
use Rattle.postorder.proofs.Alike.{Alike}

-- the file with the bytes from q to r replaced by the proof record of this text
unfoldable pub replacing : List ℕ → ℕ → ℕ → List ℕ → List ℕ
replacing f q r text = take q f ++ (proof text ++ drop r f)

-- what row 1 says of kind 6
six : (unknown_kind 6 ≡ false) × ((t : Bool) → both (equal 6 1) t ≡ false) × ((n : ℕ) → no_symbols 6 n ≡ false) × ((n : ℕ) → bad_rest 6 n ≡ false)
unfolding unknown_kind no_symbols bad_rest lists_symbols asserts equal below either both no
six = (refl, λ t. refl, λ n. refl, λ n. refl)

module _ (f : List ℕ) (q r : ℕ) (text : List ℕ) (order : q ≤ r) (fits : r ≤ length f) where
  front : length (take q f) ≡ q
  front = length-take-le q f (omega arith)

  proof-length : length (proof text) ≡ 6 + length text
  unfolding proof record_of four two
  proof-length = omega arith

  pub new-length : length (replacing f q r text) ≡ q + (6 + length text) + (length f - r)
  unfolding replacing
  new-length =
      omega (arith, length-append (take q f) (proof text ++ drop r f), length-append (proof text) (drop r f), length-drop r f, front, proof-length)

  pub byte-before : (i : ℕ) → i < q → byte f i ≡ byte (replacing f q r text) i
  unfolding byte replacing
  byte-before i l =
      sym (get_or-append (take q f) (proof text ++ drop r f) 0 i (omega (arith, front)) ∙ get_or-take q f i 0 l)

  byte-second : (i : ℕ) → byte (replacing f q r text) (q + i) ≡ get_or (proof text ++ drop r f) i 0
  unfolding byte replacing
  byte-second i = rw front at (get_or-append-add (take q f) (proof text ++ drop r f) i 0)

  byte-new : (i : ℕ) → i < 6 + length text → byte (replacing f q r text) (q + i) ≡ get_or (proof text) i 0
  byte-new i l = byte-second i ∙ get_or-append (proof text) (drop r f) 0 i (omega (arith, proof-length))

  pub byte-after : (i : ℕ) → byte f (r + i) ≡ byte (replacing f q r text) (q + (6 + length text) + i)
  unfolding byte
  byte-after i =
      let e : q + (6 + length text) + i ≡ q + (length (proof text) + i) = omega (arith, proof-length) in
      sym (ap (byte (replacing f q r text)) e
      ∙ (byte-second (length (proof text) + i) ∙ (get_or-append-add (proof text) (drop r f) i 0 ∙ get_or-drop r f i 0)))

  -- records before and after
  pub alike-before : (o : ℕ) → WellFormed f o → next_at f o ≤ q → Alike f o (replacing f q r text) o
  unfolding next_at
  alike-before o w l =
      record { formed = w; inside = omega (arith, new-length); bytes = λ i k. byte-before (o + i) (omega arith) }

  pub alike-after : (o : ℕ) → WellFormed f o → r ≤ o → Alike f o (replacing f q r text) (q + (6 + length text) + (o - r))
  unfolding next_at
  alike-after o w l =
      record {
        formed = w;
        inside = let n = w.within in omega (arith, new-length);
        bytes = λ i k.
            let e : o + i ≡ r + (o - r + i) = omega arith in
            let e' : q + (6 + length text) + (o - r) + i ≡ q + (6 + length text) + (o - r + i) = omega arith in
            rw (e, e') (byte-after (o - r + i));
      }

  -- the new record
  u16-new : (i : ℕ) → i + 1 < 6 + length text
      → u16 (replacing f q r text) (q + i) ≡ get_or (proof text) i 0 + 256 * get_or (proof text) (i + 1) 0
  unfolding u16
  u16-new i l =
      let e : q + i + 1 ≡ q + (i + 1) = omega arith in
      cc (byte-new i (omega arith), byte-new (i + 1) l)

  pub new-size : length_at (replacing f q r text) q ≡ 2 + length text
  unfolding length_at u32 proof record_of four two
  new-size =
      let n = 2 + length text in
      let z : q + 0 ≡ q = omega arith in
      let low : u16 (replacing f q r text) q ≡ n % 65536 % 256 + 256 * (n % 65536 / 256) = rw z at (u16-new 0 (omega arith)) in
      let high : u16 (replacing f q r text) (q + 2) ≡ n / 65536 % 256 + 256 * (n / 65536 / 256) = u16-new 2 (omega arith) in
      omega (arith, div-add-mod' (n % 65536) 256, div-add-mod' (n / 65536) 256, div-add-mod' n 65536)

  pub new-kind : kind_at (replacing f q r text) q ≡ 6
  unfolding kind_at proof record_of four two
  new-kind = u16-new 4 (omega arith)

  pub new-next : next_at (replacing f q r text) q ≡ q + (6 + length text)
  unfolding next_at
  new-next = omega (arith, new-size)

  new-hyps : hyp_count (replacing f q r text) q ≡ 0
  unfolding hyp_count asserts pick either equal
  new-hyps = rw new-kind

  new-pairs : pair_count (replacing f q r text) q ≡ 0
  unfolding pair_count asserts pick either equal
  new-pairs = rw new-kind

  new-listed : listed_count (replacing f q r text) q ≡ 0
  unfolding listed_count lists_symbols asserts pick either equal
  new-listed = rw new-kind

  new-fixed : fixed_size (kind_at (replacing f q r text) q) ≡ 0
  unfolding fixed_size
  new-fixed = rw new-kind

  new-rest : rest_from (replacing f q r text) q ≡ q + 6
  unfolding rest_from listed_from pairs_from lists_from
  new-rest = omega (arith, new-hyps, new-pairs, new-listed, new-fixed)

  new-rest-size : rest_size (replacing f q r text) q ≡ length text
  unfolding rest_size
  new-rest-size = omega (arith, new-rest, new-next)

  text-byte : (i : ℕ) → get_or (proof text) (6 + i) 0 ≡ get_or text i 0
  unfolding proof record_of four two
  text-byte i =
      let n = 2 + length text in
      get_or-append-add (n % 65536 % 256 ∷ n % 65536 / 256 ∷ n / 65536 % 256 ∷ n / 65536 / 256 ∷ 6 % 256 ∷ 6 / 256 ∷ []) text i 0

  pub new-text : rest_at (replacing f q r text) q ≡ text
  unfolding rest_at byte
  new-text = rw (new-rest-size, new-rest) (ext_get_or 0 _ _ size each)
    where
      size : length (take (length text) (drop (q + 6) (replacing f q r text))) ≡ length text
      size = length-take-le (length text) (drop (q + 6) (replacing f q r text)) (omega (arith, length-drop (q + 6) (replacing f q r text), new-length))

      each : (i : ℕ) → i < length (take (length text) (drop (q + 6) (replacing f q r text)))
          → get_or (take (length text) (drop (q + 6) (replacing f q r text))) i 0 ≡ get_or text i 0
      each i l =
          let k : i < length text = omega (arith, size) in
          let e : q + 6 + i ≡ q + (6 + i) = omega arith in
          get_or-take (length text) (drop (q + 6) (replacing f q r text)) i 0 k
          ∙ (get_or-drop (q + 6) (replacing f q r text) i 0 ∙ (ap (byte (replacing f q r text)) e ∙ (byte-new (6 + i) (omega arith) ∙ text-byte i)))

  module _ (short : length text ≤ 65536) (syms stmts : List ℕ) where
    record-fine : bad_record (replacing f q r text) q ≡ false
    unfolding bad_record cut_short off_layout
    record-fine =
        rw new-kind
        (sym (one_later _ (below-no (omega (arith, new-next, new-length)))
        (one_later _ (below-no (omega (arith, new-size)))
        (one_later _ six.0
        (one_later _ (six.1 _)
        (one_later _ (sym (one_later _ (below-no (omega (arith, new-next, new-rest)))
        (one_later _ (six.2 _) (one_later _ (six.3 _) (one_last refl)))))
        (one_last refl)))))))

    limit-fine : too_many (replacing f q r text) syms stmts q ≡ false
    unfolding too_many is_statement supposes asserts equal either both
    limit-fine =
        rw new-kind
        (sym (one_later _ refl
        (one_later _ refl
        (one_later _ (below-no (omega (arith, new-hyps)))
        (one_later _ (below-no (omega (arith, new-pairs)))
        (one_later _ (below-no (omega (arith, new-listed)))
        (one_later _ (below-no (omega (arith, new-rest-size)))
        (one_last refl))))))))

    others-fine : (bad_symbol (replacing f q r text) syms q ≡ false) × (bad_label (replacing f q r text) stmts q ≡ false)
        × (bad_reference (replacing f q r text) syms stmts q ≡ false) × (bad_frame (replacing f q r text) syms stmts q ≡ false)
        × (no_proof (replacing f q r text) true q ≡ false)
    unfolding bad_symbol bad_label bad_reference bad_frame no_proof is_statement supposes asserts equal either both no pick
    others-fine = (rw new-kind, rw new-kind, rw new-kind, rw new-kind, rw new-kind)

    pub new-fine : fault_at (replacing f q r text) syms stmts true q ≡ None
    unfolding fault_at
    new-fine =
        let o = others-fine in
        sym (unless-skip _ record-fine
        (unless-skip _ limit-fine
        (unless-skip _ o.0
        (unless-skip _ o.1
        (unless-skip _ o.2
        (unless-skip _ o.3
        (unless-skip _ o.4 refl)))))))
