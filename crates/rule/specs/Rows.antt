-- Declarations and arguments in a row of nodes.
use Rattle.std.specs.Prelude.{◌≡◌, ℕ, zero, suc, ◌+◌, List, [], ◌∷◌, Ok, Err, Result}
use Rattle.language.specs.declared.tables.Node.{Node}
use Rattle.language.specs.declared.values.Scalar.{Scalar}
use Rattle.language.specs.declared.faults.Fault.{Fault}
use Rattle.language.specs.Table.{type_of}
use Rattle.language.specs.Tree.{Decl, Arg}
use Rattle.table.specs.Stretches.{node_at}
use Rattle.rule.specs.declared.entries.Entry.{Entry}
use Rattle.rule.specs.declared.entries.Entry.TheVariants.{Variable}

-- the first of the nodes has the number o
abbrev pub decls_from : ℕ → List Node → List Decl
decls_from o [] = []
decls_from o (n ∷ ns) = record { at = o; name = n.name; type = type_of n.value } ∷ decls_from (o + 1) ns

abbrev pub args_from : ℕ → List Node → List Arg
args_from o [] = []
args_from o (n ∷ ns) = record { at = o; name = n.name } ∷ args_from (o + 1) ns

-- the names of the first k, the latest first
abbrev pub names_of : List Node → ℕ → List ℕ
names_of ns zero = []
names_of ns (suc k) = (node_at ns k).name ∷ names_of ns k

-- each name stands for a variable
abbrev pub entered : List Node → List (ℕ × Entry) → List (ℕ × Entry)
entered [] σ = σ
entered (n ∷ ns) σ = entered ns ((n.name, Variable (type_of n.value)) ∷ σ)

-- the types of arguments, or the first refusal
abbrev pub ArgsSaid : Result (Unit {0}) Fault → Result (List Scalar) Fault → List Scalar → Type 0
ArgsSaid (Ok u) o ts = o ≡ Ok ts
ArgsSaid (Err f) o ts = o ≡ Err f
