-- The bytes that are read off the file, the table and the pool are packed texts of lists of symbols, so that what is said of the bytes is
-- said of the lists.
use Prim.Native.Nat.{ℕ, ◌≤◌, ◌<◌}
use mathlib.Core.Path.{◌≡◌, refl, sym, ◌∙◌, ap}
use mathlib.Core.Bool.{Bool, true, false}
use mathlib.Core.Logic.{◌⊎◌, inl, inr}
use mathlib.Core.List.Memᴰ
use mathlib.Core.List.{List, [], ◌∷◌}
use native.Mathlib.Omega.{arith}
use lib.ListN.{length, get_or, drop}
use lib.Seq.{get_or-take}
use Rattle.book.specs.Book.{Substitution, replaced, substituted}
use Rattle.frames.specs.Logic.{equal, pick, same}
use Rattle.frames.specs.Layout.{symbols_at}
use Rattle.frames.specs.Verdict.{index}
use Rattle.frames.specs.Database.{Statement, Database, database, symbol_at, statement_at, GoodFile}
use Rattle.frames.specs.Facts.{◌∈◌, symbol_of}
use Rattle.facts.proofs.GoodFacts.{good-facts}
use Rattle.facts.proofs.Decoded.{database-symbols, database-symbol, database-statements, database-statement}
use Rattle.machine.specs.Ground.{is_variable, expression, expression_of}
use Rattle.packed.specs.Packing.{ended, packed_symbol, packed}
use Rattle.packed.specs.Pool.{range, is_var, spelled, image, piece, joined, Adds, Imaged, Grown}
use Rattle.packed.specs.Lists.{Indexed, Defined, Located, Shows, Substitutes, Spells, Compares, ComparesRaw, Gathers}
use Rattle.packed.specs.Images.{Gathered}
use Rattle.packed.proofs.Packs.{pack-substituted, pack-same}
use Rattle.packed.proofs.Adding.{adds_same}
use Rattle.packed.proofs.Numbering.{numbers-substituted}

nothing-packed : (db : Database) (σ : Substitution) → [] ≡ packed db (substituted (is_variable db) σ [])
unfolding packed substituted
nothing-packed db σ = refl

-- the symbols of a substituted list are defined
replaced-defined : (db : Database) (image : List ℕ) (s t : ℕ) (v : Bool) → (v ≡ true → Defined db image) → s < length db.symbols
    → t ∈ replaced v image s → t < length db.symbols
unfolding replaced
replaced-defined db image s t true d l m = (d refl).defined t m
replaced-defined db image s t false d l m = told (Memᴰ.cases_cons m)
  where
    told : (t ≡ s) ⊎ (t ∈ []) → t < length db.symbols
    told (inl e) = rw e l
    told (inr n) = absurd (Memᴰ.not-nil n)

substituted-defined : (db : Database) (σ : Substitution) (xs : List ℕ) → Defined db xs
    → ((s : ℕ) → s ∈ xs → is_variable db s ≡ true → Defined db (σ s))
    → (t : ℕ) → t ∈ substituted (is_variable db) σ xs → t < length db.symbols
unfolding substituted
substituted-defined db σ [] d images t m = absurd (Memᴰ.not-nil m)
substituted-defined db σ (s ∷ ss) d images t m =
    either-part
    (substituted-defined db σ ss (record { defined = λ x n. d.defined x (Memᴰ.tail n) }) (λ x n. images x (Memᴰ.tail n)) t)
    (Memᴰ.append_cases (replaced (is_variable db s) (σ s) s) m)
  where
    either-part : (t ∈ substituted (is_variable db) σ ss → t < length db.symbols)
        → (t ∈ replaced (is_variable db s) (σ s) s) ⊎ (t ∈ substituted (is_variable db) σ ss) → t < length db.symbols
    either-part rest (inl n) = replaced-defined db (σ s) s t (is_variable db s) (images s (Memᴰ.head refl)) (d.defined s (Memᴰ.head refl)) n
    either-part rest (inr n) = rest n

module _ {f syms : List ℕ} (ix : Indexed f syms) where
  -- the table has the symbol's offset
  offset-is : (s : ℕ) → s < length (database f).symbols → get_or syms s 0 ≡ get_or (index f).symbols s 0
  offset-is s l =
      let count = database-symbols f in
      sym (get_or-take (length (index f).symbols) syms s 0 (omega arith)) ∙ ap (λ (t : List ℕ). get_or t s 0) ix.symbols

  symbol-is : (s : ℕ) → s < length (database f).symbols → symbol_of (database f) s ≡ symbol_at f (get_or syms s 0)
  symbol-is s l = let count = database-symbols f in database-symbol f s (omega arith) ∙ ap (symbol_at f) (sym (offset-is s l))

  pub var-is : (s : ℕ) → s < length (database f).symbols → is_var f syms s ≡ is_variable (database f) s
  unfolding is_var is_variable symbol_at
  var-is s l = ap (λ (x : Rattle.frames.specs.Database.Symbol). equal x.class 1) (sym (symbol-is s l))

  spelled_is : (s : ℕ) → s < length (database f).symbols → spelled f syms s ≡ packed_symbol (database f) s
  unfolding spelled packed_symbol symbol_at
  spelled_is s l = ap (λ (x : Rattle.frames.specs.Database.Symbol). ended x.name) (sym (symbol-is s l))

  pub spelled-packed : (xs : List ℕ) → Defined (database f) xs → joined (spelled f syms) xs ≡ packed (database f) xs
  unfolding joined packed
  spelled-packed [] d = refl
  spelled-packed (s ∷ ss) d =
      let one = spelled_is s (d.defined s (Memᴰ.head refl)) in
      let rest = spelled-packed ss (record { defined = λ t m. d.defined t (Memᴰ.tail m) }) in
      cc

  module _ (froms tos pool : List ℕ) (σ : Substitution) where
    piece_is : (s : ℕ) → s < length (database f).symbols → (is_variable (database f) s ≡ true → image froms tos pool s ≡ packed (database f) (σ s))
        → (t : Bool) → is_variable (database f) s ≡ t
        → pick t (image froms tos pool s) (spelled f syms s) ≡ pick t (packed (database f) (σ s)) (packed_symbol (database f) s)
    unfolding pick
    piece_is s l shown true v = shown v
    piece_is s l shown false v = spelled_is s l

    pub pieces-packed : (xs : List ℕ) → Defined (database f) xs → Shows (database f) froms tos pool σ xs
        → joined (piece f syms froms tos pool) xs ≡ packed (database f) (substituted (is_variable (database f)) σ xs)
    unfolding joined piece
    pieces-packed [] d sh = nothing-packed (database f) σ
    pieces-packed (s ∷ ss) d sh =
        let l = d.defined s (Memᴰ.head refl) in
        let one = piece_is s l (sh.shows s (Memᴰ.head refl)) _ refl in
        let rest =
        pieces-packed ss (record { defined = λ t m. d.defined t (Memᴰ.tail m) })
        (record { shows = λ t m. sh.shows t (Memᴰ.tail m); defined = λ t m. sh.defined t (Memᴰ.tail m) }) in
        rw (var-is s l, one, rest) (sym (pack-substituted (database f) σ s ss))

-- the symbols of a statement, read at its offset
read_at : (f : List ℕ) (st : Statement) (o : ℕ) → st ≡ statement_at f o → st.at ≡ o
unfolding statement_at
read_at f st o e = ap (λ (x : Statement). x.at) e

read-symbols : (f : List ℕ) (st : Statement) (o : ℕ) → st ≡ statement_at f o → st.symbols ≡ symbols_at f o
unfolding statement_at
read-symbols f st o e = ap (λ (x : Statement). x.symbols) e

module _ {f : List ℕ} {a at : ℕ} (loc : Located f a at) where
  pub located-symbols : drop 1 (symbols_at f at) ≡ (expression_of (database f) a).symbols
  unfolding expression_of expression
  located-symbols =
      let count = database-statements f in
      let read = database-statement f a (let t = loc.there in omega arith) in
      let here : at ≡ get_or (index f).statements a 0 = loc.offset ∙ read_at f _ _ read in
      ap (λ (o : ℕ). drop 1 (symbols_at f o)) here ∙ ap (λ (xs : List ℕ). drop 1 xs) (sym (read-symbols f _ _ read))

  later : (xs : List ℕ) {s : ℕ} → s ∈ drop 1 xs → s ∈ xs
  later [] m = m
  later (x ∷ xs) m = Memᴰ.tail m

  pub located-defined : GoodFile f → Defined (database f) (expression_of (database f) a).symbols
  unfolding expression_of expression
  located-defined good = record { defined = λ s m. ((good-facts f good).statement a loc.there).symbols_defined s (later _ m) }

-- what is said of bytes is said of lists
module _ (f syms : List ℕ) (at : ℕ) where
  pub spells-lists : {used limit : ℕ} {pool pool' : List ℕ} {r : Grown}
      → Adds (joined (spelled f syms) (drop 1 (symbols_at f at))) used limit pool pool' r
      → Adds (joined (spelled f syms) (drop 1 (symbols_at f at))) used limit pool pool' r × Spells f syms at used limit pool pool' r
  spells-lists done = (
    done,
    record {
      adds = λ a ix loc.
          adds_same (ap (joined (spelled f syms)) (located-symbols loc) ∙ spelled-packed ix _ (located-defined loc ix.good)) done;
    },
  )

  pub raw-lists : {pool : List ℕ} {from to : ℕ} {r : Bool}
      → r ≡ same (range from to pool) (joined (spelled f syms) (drop 1 (symbols_at f at)))
      → (r ≡ same (range from to pool) (joined (spelled f syms) (drop 1 (symbols_at f at)))) × ComparesRaw f syms at pool from to r
  raw-lists {pool} {from} {to} done = (
    done,
    record {
      tells = λ a xs ix loc d e.
          let known = located-defined loc ix.good in
          let text = ap (joined (spelled f syms)) (located-symbols loc) ∙ spelled-packed ix _ known in
          done ∙ (ap (λ (y : List ℕ). same y (joined (spelled f syms) (drop 1 (symbols_at f at)))) e
          ∙ ap (λ (y : List ℕ). same (packed (database f) xs) y) text
          ∙ pack-same (good-facts f ix.good) xs _ d.defined known.defined);
    },
  )

  module _ (froms tos : List ℕ) where
    pub substitutes-lists : {used limit : ℕ} {pool pool' : List ℕ} {r : Grown}
        → Adds (joined (piece f syms froms tos pool) (drop 1 (symbols_at f at))) used limit pool pool' r
        → Adds (joined (piece f syms froms tos pool) (drop 1 (symbols_at f at))) used limit pool pool' r
        × Substitutes f syms at froms tos used limit pool pool' r
    substitutes-lists {used} {limit} {pool} done = (
      done,
      record {
        adds = λ a σ ix loc sh.
            adds_same
            (ap (joined (piece f syms froms tos pool)) (located-symbols loc)
            ∙ pieces-packed ix froms tos pool σ _ (located-defined loc ix.good) sh) done;
      },
    )

    pub compares-lists : {pool : List ℕ} {from to : ℕ} {r : Bool}
        → r ≡ same (range from to pool) (joined (piece f syms froms tos pool) (drop 1 (symbols_at f at)))
        → (r ≡ same (range from to pool) (joined (piece f syms froms tos pool) (drop 1 (symbols_at f at))))
        × Compares f syms at froms tos pool from to r
    compares-lists {pool} {from} {to} done = (
      done,
      record {
        tells = λ a σ xs ix loc sh d e.
            let known = located-defined loc ix.good in
            let text = ap (joined (piece f syms froms tos pool)) (located-symbols loc) ∙ pieces-packed ix froms tos pool σ _ known sh in
            done ∙ (ap (λ (y : List ℕ). same y (joined (piece f syms froms tos pool) (drop 1 (symbols_at f at)))) e
            ∙ ap (λ (y : List ℕ). same (packed (database f) xs) y) text
            ∙ pack-same (good-facts f ix.good) xs _ d.defined (substituted-defined (database f) σ _ known sh.defined));
      },
    )

-- the set gathered from the images is that of the statement as substituted
pub gathers-lists : (f syms : List ℕ) (at : ℕ) {sets words : List ℕ} → Gathered f syms sets (drop 1 (symbols_at f at)) words
    → Gathered f syms sets (drop 1 (symbols_at f at)) words × Gathers f syms at sets words
gathers-lists f syms at {sets} {words} done = (
  done,
  record {
    gathers = λ a σ vs ix loc images.
        let known = located-defined loc ix.good in
        let same-list : Gathered f syms sets (expression_of (database f) a).symbols words = rw (located-symbols loc) at done in
        numbers-substituted (database f) vs f syms sets σ same-list (λ s m. var-is ix s (known.defined s m)) images;
  },
)

-- the images of a statement's variables lie within the used part, said of the file's table
pub imaged-located : {f syms : List ℕ} {a at : ℕ} (froms tos : List ℕ) (used : ℕ) → Indexed f syms → Located f a at
    → ((s : ℕ) → s ∈ (expression_of (database f) a).symbols → is_variable (database f) s ≡ true → get_or froms s 0 ≤ get_or tos s 0)
    → ((s : ℕ) → s ∈ (expression_of (database f) a).symbols → is_variable (database f) s ≡ true → get_or tos s 0 ≤ used)
    → Imaged f syms froms tos used (drop 1 (symbols_at f at))
imaged-located {f} {syms} {a} froms tos used ix loc rises within =
    rw (located-symbols loc)
    (record {
      rises = λ s m v. rises s m (sym (var-is ix s ((located-defined loc ix.good).defined s m)) ∙ v);
      within = λ s m v. within s m (sym (var-is ix s ((located-defined loc ix.good).defined s m)) ∙ v);
    })
