-- Where the finished pieces of a table stand that is read as far as some node.
use Rattle.std.specs.Prelude.{◌≡◌, ℕ, ◌+◌, List, [], ◌∷◌, length}
use Rattle.language.specs.declared.tables.Node.{Node}
use Rattle.language.specs.declared.tables.Kind.TheVariants.{Argument}
use Rattle.language.specs.Table.{Piece, expr, comm, arg, dec, pro, Stack}
use Rattle.language.specs.Spelling.{size_expr, size}
use Rattle.table.specs.Stretches.{Named, ExprAt, DeclAt, ComAt, ProcAt}

abbrev pub size_piece : Piece → ℕ
size_piece (expr e) = size_expr e
size_piece (comm c) = size c
size_piece (arg x) = 1
size_piece (dec d) = 1
size_piece (pro i m fs c) = length fs + size c + 1

abbrev pub PieceAt : List Node → List ℕ → ℕ → Piece → Type 0
PieceAt ns ls s (expr e) = ExprAt ns ls 0 s e
PieceAt ns ls s (comm c) = ComAt ns ls 0 s c
PieceAt ns ls s (arg x) = Named ns ls 0 s 1 x.at Argument x.name
PieceAt ns ls s (dec d) = DeclAt ns ls 0 s d
PieceAt ns ls s (pro i m fs c) = ProcAt ns ls 0 s i m fs c

-- the finished pieces, the newest first, take up the nodes before e
abbrev pub Stacked : List Node → List ℕ → ℕ → Stack → Type 0
Stacked ns ls e [] = e ≡ 0
Stacked ns ls e (p ∷ st) = (s : ℕ) × (e ≡ s + size_piece p) × PieceAt ns ls s p × Stacked ns ls s st
