-- The kinds of nodes and their numbers.
use Rattle.std.specs.Prelude.{ℕ, [], ◌∷◌, Some, None, Option, Result, ok_or, slice_index_or}
use Rattle.language.specs.declared.tables.Kind.{Kind}
use Rattle.language.specs.declared.tables.UnknownKind.{UnknownKind}
use Rattle.language.specs.declared.tables.Kind.TheVariants.{Truth, Whole, Read, Plus, Less, Or, Null, Assign, If, While, Call, Argument, Decl, Proc, Block}

abbrev pub with_number : ℕ → Option Kind
with_number n =
    slice_index_or
    (Some Truth ∷ Some Whole ∷ Some Read ∷ Some Plus ∷ Some Less ∷ Some Or ∷ Some Null ∷ Some Assign ∷ Some If ∷ Some While ∷ Some Call ∷ Some Argument ∷ Some Decl ∷ Some Proc ∷ Some Block ∷ [])
    n None

-- the kind with the number, or that there is none
abbrev pub kind_of : ℕ → Result Kind UnknownKind
kind_of n = ok_or (with_number n) (record {})

abbrev pub numbered : Kind → ℕ
numbered Truth = 0
numbered Whole = 1
numbered Read = 2
numbered Plus = 3
numbered Less = 4
numbered Or = 5
numbered Null = 6
numbered Assign = 7
numbered If = 8
numbered While = 9
numbered Call = 10
numbered Argument = 11
numbered Decl = 12
numbered Proc = 13
numbered Block = 14
