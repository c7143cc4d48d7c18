-- What a block comes to.
use Rattle.std.proofs.Common.{◌≡◌, ℕ, zero, suc, ◌+◌, ◌-◌, ◌<◌, ◌≤◌, List, ◌∷◌, length, Some, None, sym, refl, ap, ◌∙◌, subst, inl, inr, arith}
use Rattle.language.specs.declared.tables.Node.{Node}
use Rattle.language.specs.declared.tables.Kind.TheVariants.{Block}
use Rattle.language.specs.Memory.{Memory}
use Rattle.language.specs.Tree.{Decl, Procs, Coms, block, pnil, cnil, ccons}
use Rattle.language.specs.Sight.{placed}
use Rattle.language.specs.Runs.{Env, Out, ended, stopped, Step, give, ◌>>=◌, ◌releasing◌, does, does_all, procedures}
use Rattle.table.specs.Stretches.{node_at}
use Rattle.table.specs.Walk.{start_at}
use Rattle.run.specs.declared.levels.Frame.{Frame}
use Rattle.run.specs.declared.levels.State.{State}
use Rattle.run.specs.declared.levels.State.TheVariants.{Run}
use Rattle.run.specs.Names.{Records, Linked, SameBelow, weights, locations_from}
use Rattle.run.specs.Shapes.{kind_at, Shaped, Forest, decls_at, procs_at, coms_at, back}
use Rattle.run.specs.Machine.{env_at, all_after, run_frame, end_frame, pushed, head, Open, VariablesIn, ProceduresIn, ProceduresOk, Good, GoodFrame, FrameOk, RunOk, Went}
use Rattle.run.proofs.Steps.{group, lift_releasing, give_first}
use Rattle.run.proofs.Sights.{env_same, locations_same, weights_same, same_less, same_then, linked_same}
use Rattle.run.proofs.Opens.{variables_same}
use Rattle.run.proofs.Declared.{head_low}
use Rattle.run.proofs.Recorded.{variables_at, variables_env, variables_weigh, variables_ok_more, ok_same_below, procedures_env, procedures_weigh, procedures_ok_more, procedures_linked}
use Rattle.run.proofs.Goods.{good_weaker, good_same, good_pushed, coms_count, procs_count}
use Rattle.run.proofs.Frames.{all_mono, all_same}

-- the frames of a row of commands do what the row does, whatever was done before
row_done : (L : ℕ) (ns : List Node) (ls : List ℕ) (F : Forest) (rs : Records) (p m e n : ℕ) (gs : List Frame) (cs : Coms) (σ : Memory) (u : ℕ) (o : Out (Unit {0})) (G : Step (Unit {0}) → Type 0)
    → ((a b : Step (Unit {0})) → ((x : Out (Unit {0})) → a σ u x → b σ u x) → G a → G b)
    → ((k : Step (Unit {0})) → all_after L ns ls F rs gs k σ u o → G (k >>= λ _. does_all L (env_at L ns ls F rs p) cs))
    → (k : Step (Unit {0})) → all_after L ns ls F rs (pushed ls Run p m e n gs) k σ u o → G (k >>= λ _. does_all L (env_at L ns ls F rs p) (coms_at ls F e n cs))
unfolding pushed coms_at
row_done L ns ls F rs p m e zero gs cs σ u o G mono h = h
row_done L ns ls F rs p m e (suc n) gs cs σ u o G mono h =
    row_done L ns ls F rs p m (start_at ls (e - 1)) n (run_frame (e - 1) p m ∷ gs) (ccons (F.tree (e - 1)) cs) σ u o G mono
    (λ k d.
    let ρ : Env = env_at L ns ls F rs p in
    mono (k >>= (λ _. does L ρ (F.tree (e - 1))) >>= λ _. does_all L ρ cs) (k >>= λ _. does L ρ (F.tree (e - 1)) >>= λ _. does_all L ρ cs)
    (λ x y. group k (λ _. does L ρ (F.tree (e - 1))) (λ _. does_all L ρ cs) σ u x y) (h (k >>= λ _. does L ρ (F.tree (e - 1))) d))

-- nothing after a row
row_end : (k : Step (Unit {0})) (σ : Memory) (u : ℕ) (x : Out (Unit {0})) → k σ u x → (k >>= λ _. give tt) σ u x
row_end k σ u (ended a τ v) h = inr (a, τ, v, h, refl)
row_end k σ u (stopped s τ) h = inl (s, τ, h, refl)

pub block_goes : (L : ℕ) (ns : List Node) (ls : List ℕ) (N : ℕ) (rs rs₁ rs₂ : Records) (P P' fs : List Frame) (f : Frame) (σ σ' : Memory) (u u' p₁ : ℕ)
    → Shaped ns ls → Good ns ls rs N f.top P → P ≡ f ∷ fs → f.state ≡ Run → kind_at ns f.at ≡ Some Block → u ≡ suc u'
    → length rs₁ ≡ length rs → length rs₂ ≡ length rs₁ → SameBelow rs rs₁ f.top → SameBelow rs₁ rs₂ (f.top + (node_at ns f.at).a)
    → Open L ns (start_at ls f.at) (node_at ns f.at).a f.top f.position σ rs₁ σ' p₁
    → ProceduresIn ns ls rs₂ (f.top + (node_at ns f.at).a) p₁ (back ls f.at (node_at ns f.at).c) (node_at ns f.at).b
    → P' ≡ pushed ls Run (head (f.top + (node_at ns f.at).a) p₁ (node_at ns f.at).b) (f.top + (node_at ns f.at).a + (node_at ns f.at).b) f.at (node_at ns f.at).c
    (end_frame f.at (head (f.top + (node_at ns f.at).a) p₁ (node_at ns f.at).b) (f.top + (node_at ns f.at).a + (node_at ns f.at).b) ∷ fs)
    → Went L ns ls N rs P None σ u rs₂ (f.top + (node_at ns f.at).a + (node_at ns f.at).b) P' None σ' u'
block_goes L ns ls N rs rs₁ rs₂ P P' fs f σ σ' u u' p₁ sh g e q k v len₁ len₂ same₁ same₂ op pr e' =
    let i : ℕ = f.at in
    let a : ℕ = (node_at ns f.at).a in
    let b : ℕ = (node_at ns f.at).b in
    let c : ℕ = (node_at ns f.at).c in
    let m : ℕ = f.top in
    let M : ℕ = m + a in
    let s : ℕ = start_at ls i in
    let p' : ℕ = head M p₁ b in
    let lo : ℕ = back ls i c in
    let g' : Good ns ls rs N m (f ∷ fs) = rw e at g in
    let lt : i < length ns = g'.0.at in
    let w = sh.of_block i lt k in
    let ok : RunOk ns ls rs N (suc (length fs)) f = subst (FrameOk ns ls rs N (suc (length fs)) f) q g'.0.ok in
    let room : m + ((i - s) + weights ls rs f.position) ≤ length rs = ok.records in
    let deep : suc (length fs) + ((i - s) + weights ls rs f.position) ≤ N = ok.levels in
    let fits : s + a ≤ back ls lo b = w.declarations in
    let pcount : back ls lo b + b ≤ lo = procs_count ns ls lo b w.procedures in
    let ccount : lo + c ≤ i = coms_count ns ls lo i c w.commands in
    let within : p₁ ≤ M = op.within in
    let low : f.position ≤ m = g'.0.position in
    let same : SameBelow rs rs₂ m = same_then rs rs₁ rs₂ m same₁ (same_less rs₁ rs₂ M m (omega arith) same₂) in
    let len : length rs₂ ≡ length rs = len₂ ∙ len₁ in
    let variables₂ : VariablesIn ns s rs₂ m f.position a p₁ = variables_same ns s rs₁ rs₂ M m f.position a p₁ same₂ (omega arith) op.variables in
    let linked_m : Linked rs₂ M = linked_same rs₁ rs₂ M M same₂ (omega arith) op.linked in
    let linked₂ : Linked rs₂ (M + b) = procedures_linked ns ls rs₂ M p₁ within lo b pr linked_m in
    let ok₀ : ProceduresOk ns ls rs₂ m = ok_same_below ns ls rs rs₂ m m same (omega arith) g'.0.linked g'.0.procedures in
    let ok_m : ProceduresOk ns ls rs₂ M = variables_ok_more ns ls s rs₂ m f.position a p₁ variables₂ ok₀ in
    let ok₂ : ProceduresOk ns ls rs₂ (M + b) = procedures_ok_more ns ls rs₂ M p₁ within lo b (omega arith) pr w.procedures ok_m in
    let w₀ : weights ls rs₂ f.position ≡ weights ls rs f.position = weights_same ls rs rs₂ m f.position same low in
    let w₁ : weights ls rs₂ p₁ ≡ weights ls rs₂ f.position = variables_weigh ns ls s rs₂ m f.position a p₁ linked_m variables₂ in
    let w₂ : weights ls rs₂ p' + b + back ls lo b ≡ weights ls rs₂ p₁ + lo = procedures_weigh ns ls rs₂ M p₁ within lo b pr w.procedures in
    let plow : p' ≤ M + b = head_low M p₁ b within in
    let under : Good ns ls rs₂ N (M + b) fs = good_weaker ns ls rs₂ N m (M + b) fs (omega arith) (good_same ns ls rs rs₂ N m m fs len same (omega arith) g'.1) in
    let last : GoodFrame ns ls rs₂ N (suc (length fs)) (M + b) (end_frame i p' (M + b)) =
    record { at = lt; top = omega arith; position = plow; linked = linked₂; procedures = ok₂; ok = record { block = k; count = omega arith; variables = λ j h h'. variables_at ns ls s rs₂ m f.position a p₁ variables₂ j (omega arith) (omega arith) } } in
    let all : Good ns ls rs₂ N (M + b) (pushed ls Run p' (M + b) i c (end_frame i p' (M + b) ∷ fs)) =
    good_pushed ns ls rs₂ N p' (M + b) lo i c (end_frame i p' (M + b) ∷ fs) w.commands plow linked₂ ok₂ (omega arith) (omega arith) (omega arith) (last, under) in
    record {
      good = rw e' all;
      means = λ F t o h.
          let ρ : Env = env_at L ns ls F rs f.position in
          let cs : Coms = coms_at ls F i c cnil in
          let ds : List Decl = decls_at ns s a in
          let ps : Procs = procs_at ns ls F lo b pnil in
          let ks : List ℕ = locations_from rs₁ m a in
          let same_locations : locations_from rs₂ m a ≡ ks = locations_same rs₁ rs₂ M m a same₂ (omega arith) in
          let back₁ : M + b - (a + b) ≡ m = omega arith in
          let inner : env_at L ns ls F rs₂ p₁ ≡ placed ds ks ρ =
          variables_env ns ls s rs₂ m f.position L F a p₁ linked_m variables₂ ∙ rw (same_locations, env_same L ns ls F rs rs₂ m f.position same low) refl in
          let sees₂ : env_at L ns ls F rs₂ p' ≡ procedures L (placed ds ks ρ) ps (placed ds ks ρ) =
          sym (procedures_env ns ls rs₂ M p₁ within L F lo b pnil pr) ∙ rw inner refl in
          let ρ₂ : Env = env_at L ns ls F rs₂ p' in
          let G : Step (Unit {0}) → Type 0 = λ d. all_after L ns ls F rs fs (d releasing ks) σ' u' o in
          let h₀ : all_after L ns ls F rs₂ (pushed ls Run p' (M + b) i c (end_frame i p' (M + b) ∷ fs)) (give tt) σ' u' o = rw e' at h in
          let h₁ : G (give tt >>= λ _. does_all L ρ₂ cs) =
          row_done L ns ls F rs₂ p' (M + b) i c (end_frame i p' (M + b) ∷ fs) cnil σ' u' o G
          (λ x y mono z. all_mono L ns ls F rs fs (y releasing ks) (x releasing ks) σ' σ' u' u' (λ r d. lift_releasing y x ks σ' σ' u' u' r mono d) o z)
          (λ d z.
          let z₁ : all_after L ns ls F rs₂ fs (d releasing ks) σ' u' o = rw same_locations at (rw back₁ at z) in
          let z₂ : all_after L ns ls F rs fs (d releasing ks) σ' u' o = rw (all_same L ns ls F rs rs₂ N m m fs (d releasing ks) same (omega arith) g'.1) at z₁ in
          all_mono L ns ls F rs fs ((d >>= λ _. give tt) releasing ks) (d releasing ks) σ' σ' u' u'
          (λ r y. lift_releasing (d >>= λ _. give tt) d ks σ' σ' u' u' r (λ x y. row_end d σ' u' x y) y) o z₂)
          (give tt) h₀ in
          let B : Step (Unit {0}) = does L ρ (block i ds ps cs) in
          let h₂ : all_after L ns ls F rs fs (give tt >>= λ _. B) σ (suc u') o =
          all_mono L ns ls F rs fs (give tt >>= λ _. B) ((give tt >>= λ _. does_all L ρ₂ cs) releasing ks) σ σ' (suc u') u'
          (λ x z.
          let z₁ : (does_all L ρ₂ cs releasing ks) σ' u' x =
          lift_releasing (does_all L ρ₂ cs) (give tt >>= λ _. does_all L ρ₂ cs) ks σ' σ' u' u' x (λ y d. give_first tt (λ _. does_all L ρ₂ cs) σ' u' y d) z in
          let z₂ : (does_all L (procedures L (placed ds ks ρ) ps (placed ds ks ρ)) cs releasing ks) σ' u' x = rw sees₂ at z₁ in
          inr (tt, σ, suc u', refl, inr (tt, σ, u', refl, inr (ks, σ', u', op.takes u', z₂)))) o h₁ in
          rw (e, v, q, t.blocks i lt k) h₂;
    }

-- the frames that a block puts on those below it, as they are pushed
pub block_frames : (ls : List ℕ) (P gs fs : List Frame) (state : State) (i p p' m m' n n' : ℕ) → state ≡ Run → p ≡ p' → m ≡ m' → n ≡ n' → gs ≡ end_frame i p m ∷ fs
    → P ≡ pushed ls state p m i n gs → P ≡ pushed ls Run p' m' i n' (end_frame i p' m' ∷ fs)
block_frames ls P gs fs state i p p' m m' n n' q ep em en eg e =
    e ∙ ap (λ (s : State). pushed ls s p m i n gs) q ∙ ap (λ (xs : List Frame). pushed ls Run p m i n xs) eg ∙ rw (ep, em, en) refl
