-- An expression worked out node by node on a stack of values, and as a tree.
use Rattle.std.specs.Prelude.{◌≡◌, ℕ, zero, suc, ◌+◌, ◌<◌, ◌≤◌, List, [], ◌∷◌, Some, None, Ok, Err, Option, Result}
use Rattle.language.specs.declared.tables.Node.{Node}
use Rattle.language.specs.declared.tables.Kind.{Kind}
use Rattle.language.specs.declared.tables.Kind.TheVariants.{Truth, Whole, Read, Plus, Less, Or, Null, Assign, If, While, Call, Argument, Decl, Proc, Block}
use Rattle.language.specs.declared.values.Value.{Value}
use Rattle.language.specs.declared.values.Value.TheVariants.{Truth as truth_value, Whole as whole_value}
use Rattle.language.specs.declared.values.Stop.{Stop}
use Rattle.language.specs.declared.values.Stop.TheVariants.{Stuck}
use Rattle.language.specs.Values.{sum, less_than, either_true}
use Rattle.language.specs.Results.{◌>>=◌, or_else}
use Rattle.language.specs.Memory.{Memory}
use Rattle.language.specs.Tree.{Expr, truth, whole, read, plus, less, or}
use Rattle.table.specs.Stretches.{node_at}
use Rattle.run.specs.declared.levels.Level.{Level}
use Rattle.run.specs.Levels.{values}
use Rattle.run.specs.Shapes.{kind_at, is_true}

-- the location that each name stands for
abbrev pub Locator : Type 0
Locator = ℕ → Result ℕ Stop

abbrev pub fetched : Memory → Result ℕ Stop → Result Value Stop
fetched σ r = r >>= λ l. or_else Stuck (σ l)

-- an operator takes the two newest values
abbrev pub operated : (Value → Value → Result Value Stop) → List Value → Result (List Value) Stop
operated f [] = Err Stuck
operated f (w ∷ []) = Err Stuck
operated f (w ∷ v ∷ vs) = f v w >>= λ x. Ok (x ∷ vs)

-- what an operator makes of two values, and nothing of any other kind of node
abbrev pub operator_value : Kind → ℕ → Value → Value → Result Value Stop
operator_value Truth i v w = Err Stuck
operator_value Whole i v w = Err Stuck
operator_value Read i v w = Err Stuck
operator_value Plus i v w = sum i v w
operator_value Less i v w = less_than v w
operator_value Or i v w = either_true v w
operator_value Null i v w = Err Stuck
operator_value Assign i v w = Err Stuck
operator_value If i v w = Err Stuck
operator_value While i v w = Err Stuck
operator_value Call i v w = Err Stuck
operator_value Argument i v w = Err Stuck
operator_value Decl i v w = Err Stuck
operator_value Proc i v w = Err Stuck
operator_value Block i v w = Err Stuck

abbrev pub node_done : Locator → Memory → Option Kind → ℕ → Node → List Value → Result (List Value) Stop
node_done ρ σ None i n vs = Err Stuck
node_done ρ σ (Some Truth) i n vs = Ok (truth_value (is_true n.value) ∷ vs)
node_done ρ σ (Some Whole) i n vs = Ok (whole_value n.value ∷ vs)
node_done ρ σ (Some Read) i n vs = fetched σ (ρ n.name) >>= λ v. Ok (v ∷ vs)
node_done ρ σ (Some Plus) i n vs = operated (sum i) vs
node_done ρ σ (Some Less) i n vs = operated less_than vs
node_done ρ σ (Some Or) i n vs = operated either_true vs
node_done ρ σ (Some Null) i n vs = Err Stuck
node_done ρ σ (Some Assign) i n vs = Err Stuck
node_done ρ σ (Some If) i n vs = Err Stuck
node_done ρ σ (Some While) i n vs = Err Stuck
node_done ρ σ (Some Call) i n vs = Err Stuck
node_done ρ σ (Some Argument) i n vs = Err Stuck
node_done ρ σ (Some Decl) i n vs = Err Stuck
node_done ρ σ (Some Proc) i n vs = Err Stuck
node_done ρ σ (Some Block) i n vs = Err Stuck

-- n nodes from j on
unfoldable pub nodes_done : List Node → Locator → Memory → ℕ → ℕ → List Value → Result (List Value) Stop
nodes_done ns ρ σ j zero vs = Ok vs
nodes_done ns ρ σ j (suc n) vs = node_done ρ σ (kind_at ns j) j (node_at ns j) vs >>= nodes_done ns ρ σ (j + 1) n

abbrev pub only_one : List Value → Result Value Stop
only_one [] = Err Stuck
only_one (v ∷ []) = Ok v
only_one (v ∷ w ∷ vs) = Err Stuck

abbrev pub only : Result (List Value) Stop → Result Value Stop
only r = r >>= only_one

-- the two newest of h values from the level d on are taken off, the older one first
abbrev pub Operands : List Level → (d h h' : ℕ) → Result (Value × Value) Stop → Type 0
Operands vs d h h' (Ok p) = (h' + 2 ≡ h) × (values vs d h ≡ p.1 ∷ p.0 ∷ values vs d h')
Operands vs d h h' (Err s) = (h < 2) × (s ≡ Stuck)

-- the value of a tree
abbrev pub evaluated : Locator → Memory → Expr → Result Value Stop
evaluated ρ σ (truth b) = Ok (truth_value b)
evaluated ρ σ (whole z) = Ok (whole_value z)
evaluated ρ σ (read i m) = fetched σ (ρ m)
evaluated ρ σ (plus i e f) = evaluated ρ σ e >>= λ v. evaluated ρ σ f >>= λ w. sum i v w
evaluated ρ σ (less i e f) = evaluated ρ σ e >>= λ v. evaluated ρ σ f >>= λ w. less_than v w
evaluated ρ σ (or i e f) = evaluated ρ σ e >>= λ v. evaluated ρ σ f >>= λ w. either_true v w

-- the value of one node, with those of the h values on which it stands then
abbrev pub NodeValued : Result (List Value) Stop → List Level → (d h h' : ℕ) → Result Value Stop → Type 0
NodeValued o vs d h h' (Ok v) = (h' ≤ h) × (o ≡ Ok (v ∷ values vs d h'))
NodeValued o vs d h h' (Err s) = o ≡ Err s
