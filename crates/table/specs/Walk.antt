-- Back over finished stretches, as the code goes.
use Rattle.std.specs.Prelude.{ℕ, zero, suc, ◌+◌, ◌-◌, ◌<◌, ◌≤◌, cond, List, length, Some, None, Ok, Err, Option, Result, ◌==◌, slice_index}
use Rattle.language.specs.declared.tables.Node.{Node}
use Rattle.language.specs.declared.tables.Kind.{Kind}
use Rattle.language.specs.declared.tables.Kind.TheVariants.{Truth, Whole, Read, Plus, Less, Or, Null, Assign, If, While, Call, Argument, Decl, Proc, Block}
use Rattle.language.specs.declared.faults.Fault.{Fault}
use Rattle.language.specs.declared.faults.TableCause.TheVariants.{Kind as KindCause, Fields, Pieces, Whole as WholeCause}
use Rattle.language.specs.Kinds.{with_number}
use Rattle.language.specs.Results.{◌>>=◌, ◌>>?◌, asked, or_else}
use Rattle.language.specs.Table.{formed, refusal}
use Rattle.table.specs.declared.node.Sort.{Sort}
use Rattle.table.specs.declared.node.Sort.TheVariants.{Expression, Command, Argument as ArgumentSort, Declaration, Procedure}
use Rattle.table.specs.Sorts.{sort_of, same_sort}
use Rattle.table.specs.Stretches.{node_at}

-- where the stretch begins that the node i ends
abbrev pub start_at : List ℕ → ℕ → ℕ
start_at ls i = i + 1 - slice_index ls i

-- no length that is noted before i reaches past the first node
abbrev pub Short : List ℕ → ℕ → Type 0
Short ls i = (k : ℕ) → k < i → slice_index ls k ≤ k + 1

-- where a start is found, it is not past e
abbrev pub Low : Option ℕ → ℕ → Type 0
Low None e = Unit {0}
Low (Some s) e = s ≤ e

-- where a length is found, it does not reach past the first node
abbrev pub Brief : Result ℕ Fault → ℕ → Type 0
Brief (Err f) i = Unit {0}
Brief (Ok z) i = z ≤ i + 1

-- where the piece of this sort begins that ends right before e
abbrev pub step_back : List Node → List ℕ → Sort → ℕ → Option ℕ
step_back ns ls so e =
    cond (e == 0) None
    (with_number (node_at ns (e - 1)).kind >>? λ k. cond (same_sort (sort_of k) so) (Some (start_at ls (e - 1))) None)

-- where the last n pieces of this sort begin that end right before e
unfoldable pub walk : List Node → List ℕ → Sort → ℕ → ℕ → Option ℕ
walk ns ls so zero e = Some e
walk ns ls so (suc n) e = step_back ns ls so e >>? walk ns ls so n

-- where the pieces begin that a node i of this kind takes
abbrev pub start_of : Kind → Node → List Node → List ℕ → ℕ → Option ℕ
start_of Truth n ns ls i = Some i
start_of Whole n ns ls i = Some i
start_of Read n ns ls i = Some i
start_of Plus n ns ls i = step_back ns ls Expression i >>? step_back ns ls Expression
start_of Less n ns ls i = step_back ns ls Expression i >>? step_back ns ls Expression
start_of Or n ns ls i = step_back ns ls Expression i >>? step_back ns ls Expression
start_of Null n ns ls i = Some i
start_of Assign n ns ls i = step_back ns ls Expression i
start_of If n ns ls i = step_back ns ls Command i >>? λ d. step_back ns ls Command d >>? step_back ns ls Expression
start_of While n ns ls i = step_back ns ls Command i >>? step_back ns ls Expression
start_of Call n ns ls i = walk ns ls ArgumentSort n.a i
start_of Argument n ns ls i = Some i
start_of Decl n ns ls i = Some i
start_of Proc n ns ls i = step_back ns ls Command i >>? walk ns ls Declaration n.a
start_of Block n ns ls i = walk ns ls Command n.c i >>? λ d. walk ns ls Procedure n.b d >>? walk ns ls Declaration n.a

-- the length of the stretch that the node i ends
abbrev pub stretch_of : List Node → List ℕ → ℕ → Result ℕ Fault
stretch_of ns ls i =
    or_else (refusal KindCause i) (with_number (node_at ns i).kind) >>= λ k.
    asked (formed k (node_at ns i)) (refusal Fields i) >>= λ _.
    or_else (refusal Pieces i) (start_of k (node_at ns i) ns ls i) >>= λ s. Ok (i + 1 - s)

-- one command from the first node on
abbrev pub whole_of : List Node → List ℕ → Result (Unit {0}) Fault
whole_of ns ls =
    or_else (refusal WholeCause (length ns - 1)) (step_back ns ls Command (length ns)) >>= λ s. asked (s == 0) (refusal WholeCause (length ns - 1))
