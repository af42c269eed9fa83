-- What a search by name or label may answer: only what is found, whatever the way of searching.
use Rattle.std.specs.Prelude.{ℕ, ◌<◌, ◌≡◌, false, List, length, get_or, Option, Some, None}
use Rattle.frames.specs.Layout.{rest_at}
use Rattle.frames.specs.Table.{used}
use Rattle.frames.specs.Database.{symbol_at, statement_at}
use Rattle.frames.specs.declared.numbers.SymbolNo.{SymbolNo}
use Rattle.frames.specs.declared.numbers.StatementNo.{StatementNo}

-- what a search finds: the number of a record, or none
abbrev pub Found : Type 0
Found = Option ℕ

abbrev pub FoundSymbol : Type 0
FoundSymbol = Option SymbolNo

abbrev pub FoundStatement : Type 0
FoundStatement = Option StatementNo

-- among the records at these offsets: the number of one that has this name or label, or that none has it
abbrev pub Finds : List ℕ → List ℕ → List ℕ → Found → Type 0
Finds f os text (Some i) = (i < length os) × (rest_at f (get_or os i 0) ≡ text)
Finds f os text None = used f os text ≡ false

-- among the symbols at these offsets: one of this name, or that none has it
abbrev pub FindsSymbol : List ℕ → List ℕ → List ℕ → FoundSymbol → Type 0
FindsSymbol f syms name (Some s) = (s.0 < length syms) × ((symbol_at f (get_or syms s.0 0)).name ≡ name)
FindsSymbol f syms name None = used f syms name ≡ false

-- among the statements at these offsets: one of this label, or that none has it
abbrev pub FindsStatement : List ℕ → List ℕ → List ℕ → FoundStatement → Type 0
FindsStatement f stmts label (Some p) = (p.0 < length stmts) × ((statement_at f (get_or stmts p.0 0)).label ≡ label)
FindsStatement f stmts label None = used f stmts label ≡ false
