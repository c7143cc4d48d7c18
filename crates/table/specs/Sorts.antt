-- The sort of the piece that a node of each kind ends.
use Rattle.std.specs.Prelude.{ℕ, Bool, ◌&&◌, ◌==◌}
use Rattle.language.specs.declared.tables.Node.{Node}
use Rattle.language.specs.declared.tables.Kind.{Kind}
use Rattle.language.specs.declared.tables.Kind.TheVariants.{Truth, Whole, Read, Plus, Less, Or, Null, Assign, If, While, Call, Argument, Decl, Proc, Block}
use Rattle.table.specs.declared.node.Sort.{Sort}
use Rattle.table.specs.declared.node.Sort.TheVariants.{Expression, Command, Argument as ArgumentSort, Declaration, Procedure}

abbrev pub sort_of : Kind → Sort
sort_of Truth = Expression
sort_of Whole = Expression
sort_of Read = Expression
sort_of Plus = Expression
sort_of Less = Expression
sort_of Or = Expression
sort_of Null = Command
sort_of Assign = Command
sort_of If = Command
sort_of While = Command
sort_of Call = Command
sort_of Argument = ArgumentSort
sort_of Decl = Declaration
sort_of Proc = Procedure
sort_of Block = Command

-- the place of a sort among the sorts
abbrev pub order : Sort → ℕ
order Expression = 0
order Command = 1
order ArgumentSort = 2
order Declaration = 3
order Procedure = 4

abbrev pub same_sort : Sort → Sort → Bool
same_sort a b = order a == order b

-- a node that lists no count
abbrev pub zero_counts : Node → Bool
zero_counts n = n.a == 0 && (n.b == 0 && n.c == 0)
