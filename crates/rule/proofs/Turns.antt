-- One turn more of each loop over a row.
use Rattle.std.proofs.Common.{◌≡◌, ℕ, zero, suc, ◌+◌, ◌<◌, ◌≤◌, ◌&&◌, ◌||◌, List, [], ◌∷◌, ◌++◌, length, take, drop, set, Ok, Err, Result, sym, refl, ap, ◌∙◌, arith}
use Rattle.std.proofs.lemmas.List.{drop_more, drop_all, take_more_set, append-nil, append_assoc}
use Rattle.std.proofs.Math.Bool.{or_comm}
use Rattle.std.proofs.lemmas.List.Folds.{list_any_more}
use Rattle.std.specs.List.{list_any, list_all, zip}
use Rattle.language.specs.declared.tables.Node.{Node}
use Rattle.language.specs.declared.values.Scalar.{Scalar}
use Rattle.language.specs.declared.faults.Fault.{Fault}
use Rattle.language.specs.Same.{same}
use Rattle.language.specs.Sight.{look, member}
use Rattle.language.specs.Table.{type_of}
use Rattle.language.specs.Tree.{Arg}
use Rattle.language.specs.Results.{◌>>=◌}
use Rattle.language.specs.Values.{alike}
use Rattle.language.specs.Names.{as_variable, check_args, all_alike}
use Rattle.table.specs.Stretches.{blank, node_at}
use Rattle.rule.specs.Seen.{Names, types_in}
use Rattle.rule.specs.Rows.{args_from, names_of}

-- ---- a name among the first ones
module _ (ns : List Node) where
  pub named_among : (m k : ℕ) → k ≤ length ns → list_any (λ (n : Node). same m n.name) (take k ns) ≡ member m (names_of ns k)
  named_among m zero h = refl
  named_among m (suc k) h =
      let p : suc k ≡ k + 1 = omega arith in
      rw p (
      list_any_more (λ (n : Node). same m n.name) ns k blank (omega arith)
      ∙ or_comm (list_any (λ (n : Node). same m n.name) (take k ns)) (same m (node_at ns k).name)
      ∙ ap (λ b. same m (node_at ns k).name || b) (named_among m k (omega arith))
      )

-- ---- the types of arguments
-- what is left of the arguments, after the types that are known already
unfoldable pub args_rest : Names → List Scalar → List Arg → Result (List Scalar) Fault
args_rest ρ pre xs = check_args ρ xs >>= λ us. Ok (pre ++ us)

bind_same : {A : Type 0} (r : Result A Fault) → r ≡ (r >>= λ x. Ok x)
bind_same (Ok a) = refl
bind_same (Err f) = refl

regroup : (r : Result (List Scalar) Fault) (pre : List Scalar) (t : Scalar)
    → ((r >>= λ us. Ok (t ∷ us)) >>= λ us. Ok (pre ++ us)) ≡ (r >>= λ us. Ok ((pre ++ (t ∷ [])) ++ us))
regroup (Err f) pre t = refl
regroup (Ok us) pre t = ap Ok (sym (append_assoc pre (t ∷ []) us))

module _ (ns : List Node) (ρ : Names) where
  args_next : (o k : ℕ) → k < length ns → check_args ρ (args_from (o + k) (drop k ns))
      ≡ (as_variable (o + k) (look (node_at ns k).name ρ) >>= λ t. check_args ρ (args_from (o + (k + 1)) (drop (k + 1) ns)) >>= λ ts. Ok (t ∷ ts))
  args_next o k h =
      let p : o + k + 1 ≡ o + (k + 1) = omega arith in
      ap (λ l. check_args ρ (args_from (o + k) l)) (drop_more ns k blank h) ∙ rw p refl

  pub args_start : (o : ℕ) (ts : List Scalar) → check_args ρ (args_from o ns) ≡ args_rest ρ (take 0 ts) (args_from (o + 0) (drop 0 ns))
  unfolding args_rest
  args_start o ts = let p : o + 0 ≡ o = omega arith in rw p (bind_same (check_args ρ (args_from o ns)))

  pub args_turn : (o k : ℕ) (ts : List Scalar) (t : Scalar) → k < length ns → k < length ts → as_variable (o + k) (look (node_at ns k).name ρ) ≡ Ok t
      → args_rest ρ (take k ts) (args_from (o + k) (drop k ns)) ≡ args_rest ρ (take (k + 1) (set ts k t)) (args_from (o + (k + 1)) (drop (k + 1) ns))
  unfolding args_rest
  args_turn o k ts t lt ln h =
      let r : Result (List Scalar) Fault = check_args ρ (args_from (o + (k + 1)) (drop (k + 1) ns)) in
      ap (λ r. r >>= λ us. Ok (take k ts ++ us)) (args_next o k lt ∙ ap (λ (m : Result Scalar Fault). m >>= λ t. r >>= λ us. Ok (t ∷ us)) h)
      ∙ regroup r (take k ts) t ∙ ap (λ l. r >>= λ us. Ok (l ++ us)) (sym (take_more_set ts k t ln))

  pub args_stop : (o k : ℕ) (ts : List Scalar) (f : Fault) → k < length ns → as_variable (o + k) (look (node_at ns k).name ρ) ≡ Err f
      → args_rest ρ (take k ts) (args_from (o + k) (drop k ns)) ≡ Err f
  unfolding args_rest
  args_stop o k ts f lt h =
      ap (λ r. r >>= λ us. Ok (take k ts ++ us)) (args_next o k lt ∙ ap (λ (m : Result Scalar Fault). m >>= λ t. check_args ρ (args_from (o + (k + 1)) (drop (k + 1) ns)) >>= λ us. Ok (t ∷ us)) h)

  pub args_done : (o k : ℕ) (ts : List Scalar) → length ns ≤ k → k ≤ length ns → args_rest ρ (take k ts) (args_from (o + k) (drop k ns)) ≡ Ok (take (length ns) ts)
  unfolding args_rest
  args_done o k ts h le =
      let q : k ≡ length ns = omega arith in
      rw (drop_all k ns h) (ap Ok (append-nil (take k ts)) ∙ ap (λ n. Ok (take n ts)) q)

-- ---- arguments beside formals
pub alike_beside : (fs : List Node) (ts : List Scalar) → length fs ≤ length ts
    → list_all (λ (p : Node × Scalar). alike p.1 (type_of p.0.value)) (zip fs ts) ≡ all_alike (take (length fs) ts) (types_in fs)
alike_beside [] ts h = refl
alike_beside (f ∷ fs) [] h = absurd (omega arith)
alike_beside (f ∷ fs) (t ∷ ts) h = ap (λ b. alike t (type_of f.value) && b) (alike_beside fs ts (omega arith))
