-- A block, from what the calls say.
use Rattle.std.proofs.Common.{◌≡◌, ℕ, ◌+◌, ◌≤◌, List, [], length, Ok, Err, sym, refl, ap, ◌∙◌, arith}
use Rattle.language.specs.declared.tables.Node.{Node}
use Rattle.language.specs.declared.faults.Fault.{Fault}
use Rattle.language.specs.Tree.{Decl, Procs, Coms, block}
use Rattle.language.specs.Results.{◌>>=◌}
use Rattle.language.specs.Sight.{look, without}
use Rattle.language.specs.Spelling.{how_many_procs, size_procs}
use Rattle.language.specs.Names.{variables, proc_names, check_decls, check_com, check_coms, check_procs}
use Rattle.rule.specs.declared.checker.Checker.{Checker}
use Rattle.rule.specs.declared.parts.Part.{Part}
use Rattle.rule.specs.Pieces.{long, IsComs, IsProcs}
use Rattle.rule.specs.Rows.{decls_from, entered}
use Rattle.rule.specs.Seen.{Names, Looks, Sees, SeesFrom, Bounded, sight, sight_from, room, Grown}
use Rattle.rule.specs.Said.{Entries, Sighted, SomeComs, SomeBlock, SomeProcs, ComsSays, ProcsSays, hidden}
use Rattle.rule.proofs.Bounds.{bounded_vars, bounded_without, procs_bound, coms_bound}
use Rattle.rule.proofs.Grows.{looks_as}
use Rattle.rule.proofs.Laws.{Agree, Pairs, errs, oks, procs_agree, variables_agree}
use Rattle.rule.proofs.Sights.{looks_entered, looks_hidden, without_look, decls_long}
use Rattle.rule.proofs.Splits.{two_each}
use Rattle.rule.proofs.Passes.{lies_on}

-- the names that a block hides are those that its procedures bring back
agreed : (table : List Node) (ds : List Decl) (ms : List ℕ) (ρ : Names) → Agree ms (variables ds (without ms ρ)) (variables ds ρ)
agreed table ds ms ρ = variables_agree ds ms (without ms ρ) ρ (λ m h. without_look table ms ρ m ∙ rw h refl)

module _ (table : List Node) (ds : List Decl) (ps : Procs) (ρ : Names) where
  both : Pairs (check_procs (variables ds (without (proc_names ps) ρ)) [] ps (variables ds (without (proc_names ps) ρ)))
      (check_procs (variables ds (without (proc_names ps) ρ)) [] ps (variables ds ρ))
  both = procs_agree (variables ds (without (proc_names ps) ρ)) [] ps _ (variables ds ρ) (agreed table ds (proc_names ps) ρ)

  procs_bad : (f : Fault) → check_procs (variables ds (without (proc_names ps) ρ)) [] ps (variables ds (without (proc_names ps) ρ)) ≡ Err f
      → check_procs (variables ds (without (proc_names ps) ρ)) [] ps (variables ds ρ) ≡ Err f
  procs_bad f h = go both
    where
      go : Pairs (check_procs (variables ds (without (proc_names ps) ρ)) [] ps (variables ds (without (proc_names ps) ρ))) (check_procs (variables ds (without (proc_names ps) ρ)) [] ps (variables ds ρ))
          → check_procs (variables ds (without (proc_names ps) ρ)) [] ps (variables ds ρ) ≡ Err f
      go (errs g x y) = y ∙ sym x ∙ h
      go (oks a b x y l) = cc

  procs_good : (τ : Names) (σ : Entries) → check_procs (variables ds (without (proc_names ps) ρ)) [] ps (variables ds (without (proc_names ps) ρ)) ≡ Ok τ → Looks table σ τ
      → (υ : Names) × (check_procs (variables ds (without (proc_names ps) ρ)) [] ps (variables ds ρ) ≡ Ok υ) × Looks table σ υ
  procs_good τ σ h lk = go both
    where
      go : Pairs (check_procs (variables ds (without (proc_names ps) ρ)) [] ps (variables ds (without (proc_names ps) ρ))) (check_procs (variables ds (without (proc_names ps) ρ)) [] ps (variables ds ρ))
          → (υ : Names) × (check_procs (variables ds (without (proc_names ps) ρ)) [] ps (variables ds ρ) ≡ Ok υ) × Looks table σ υ
      go (errs g x y) = cc
      go (oks a b x y l) =
          let z : Ok τ ≡ Ok a = sym h ∙ x in
          let q : τ ≡ a = cc in
          (b, y, record { says = λ m. lk.says m ∙ ap (look m) q ∙ l m; stands = lk.stands })

pub hide_room : {v q r : Part} {a : Checker} (s : SomeBlock a v q r) → a.scope.top + how_many_procs s.ps ≤ room a
hide_room s = omega (arith, s.roomy, s.procedures.whole, two_each s.ps)

pub enter_room : {v q r : Part} {a b : Checker} (s : SomeBlock a v q r) → Grown a b (how_many_procs s.ps) → b.scope.top + length v.nodes.now ≤ room b
enter_room s g = omega (arith, s.roomy, s.procedures.whole, two_each s.ps, g.top, g.long)

-- the checker on the way: hidden names in b, the variables in c, which is seen from inner
module _ (v r : Part) {q : Part} {a b c : Checker} {inner : ℕ} (hides : (ps : Procs) → IsProcs q ps → sight b ≡ hidden (proc_names ps) (sight a))
    (hidden_grown : (ps : Procs) → IsProcs q ps → Grown a b (how_many_procs ps)) (enters : sight c ≡ entered v.nodes.now (sight b)) (entered_grown : Grown b c (length v.nodes.now))
    (from : inner ≡ c.scope.head) where
  sees_here : (ps : Procs) (ρ : Names) → IsProcs q ps → Sees a ρ → Sees c (variables (decls_from v.first v.nodes.now) (without (proc_names ps) ρ))
  sees_here ps ρ iq lk =
      looks_as entered_grown.table enters
      (looks_entered b.table.now v.nodes.now v.first (sight b) _ (looks_as (hidden_grown ps iq).table (hides ps iq) (looks_hidden a.table.now (proc_names ps) (sight a) ρ lk)))

  sees_inner : (ps : Procs) (ρ : Names) → IsProcs q ps → Sees a ρ → SeesFrom c inner (variables (decls_from v.first v.nodes.now) (without (proc_names ps) ρ))
  sees_inner ps ρ iq lk = looks_as refl (ap (sight_from c) from) (sees_here ps ρ iq lk)

  same_table : (ps : Procs) → IsProcs q ps → c.table.now ≡ a.table.now
  same_table ps iq = entered_grown.table ∙ (hidden_grown ps iq).table

  pub pass_procs : (s : SomeBlock a v q r) → inner ≤ c.scope.top → SomeProcs c q inner
  pass_procs s low =
      let g = hidden_grown s.ps s.procedures in
      record {
        ps = s.ps;
        is = s.procedures;
        lies = lies_on (same_table s.ps s.procedures) s.procedures_lie;
        low = low;
        seen = record {
          ρ = variables (decls_from v.first v.nodes.now) (without (proc_names s.ps) s.seen.ρ);
          B = s.seen.B;
          looks = sees_inner s.ps s.seen.ρ s.procedures s.seen.looks;
          bounded = bounded_vars s.seen.B (decls_from v.first v.nodes.now) _ (bounded_without s.seen.B (proc_names s.ps) s.seen.ρ s.seen.bounded);
          fits = omega (arith, s.seen.fits);
        };
        roomy = omega (arith, s.roomy, g.top, g.long, entered_grown.top, entered_grown.long);
      }

  module _ (ps : Procs) (ρ : Names) (iq : IsProcs q ps) (lk : Sees a ρ) (names : Ok tt ≡ check_decls [] (decls_from v.first v.nodes.now)) where
    pub block_procs_bad : (i : ℕ) (cs : Coms) (f : Fault) (d : Checker) → ProcsSays c q inner (Err f) d → Err f ≡ check_com ρ (block i (decls_from v.first v.nodes.now) ps cs)
    block_procs_bad i cs f d h =
        let k = procs_bad c.table.now (decls_from v.first v.nodes.now) ps ρ f (h ps _ _ iq (sees_inner ps ρ iq lk) (sees_here ps ρ iq lk)) in
        sym (ap (λ o. o >>= λ _. check_procs (variables (decls_from v.first v.nodes.now) (without (proc_names ps) ρ)) [] ps (variables (decls_from v.first v.nodes.now) ρ) >>= λ ρ'. check_coms ρ' cs >>= λ n. Ok (length (decls_from v.first v.nodes.now) + n)) (sym names)
        ∙ ap (λ o. o >>= λ ρ'. check_coms ρ' cs >>= λ n. Ok (length (decls_from v.first v.nodes.now) + n)) k)

    module _ (d : Checker) (done : ProcsSays c q inner (Ok tt) d) where
      after : (υ : Names) × (check_procs (variables (decls_from v.first v.nodes.now) (without (proc_names ps) ρ)) [] ps (variables (decls_from v.first v.nodes.now) ρ) ≡ Ok υ) × Sees d υ
      after =
          let w = done ps _ _ iq (sees_inner ps ρ iq lk) (sees_here ps ρ iq lk) in
          procs_good d.table.now (decls_from v.first v.nodes.now) ps ρ w.0 (sight d) w.1 w.2

      pub after_sighted : (B z : ℕ) → Bounded B ρ → B + (long q + z) ≤ 4096 → Sighted d.table.now (sight d) z
      after_sighted B z h le =
          record {
            ρ = after.0;
            B = B + size_procs ps;
            looks = after.2;
            bounded = procs_bound ps B B (variables (decls_from v.first v.nodes.now) (without (proc_names ps) ρ)) [] (variables (decls_from v.first v.nodes.now) ρ) after.0
                (bounded_vars B (decls_from v.first v.nodes.now) _ (bounded_without B (proc_names ps) ρ h)) (bounded_vars B (decls_from v.first v.nodes.now) ρ h) (omega arith) after.1;
            fits = omega (arith, iq.whole);
          }

      through : (i : ℕ) (cs : Coms) → check_com ρ (block i (decls_from v.first v.nodes.now) ps cs) ≡ (check_coms after.0 cs >>= λ n. Ok (length (decls_from v.first v.nodes.now) + n))
      through i cs =
          ap (λ o. o >>= λ _. check_procs (variables (decls_from v.first v.nodes.now) (without (proc_names ps) ρ)) [] ps (variables (decls_from v.first v.nodes.now) ρ) >>= λ ρ'. check_coms ρ' cs >>= λ n. Ok (length (decls_from v.first v.nodes.now) + n)) (sym names)
          ∙ ap (λ o. o >>= λ ρ'. check_coms ρ' cs >>= λ n. Ok (length (decls_from v.first v.nodes.now) + n)) after.1

      module _ (cs : Coms) (ir : IsComs r cs) where
        pub block_coms_bad : (i : ℕ) (f : Fault) → ComsSays d r (Err f) → Err f ≡ check_com ρ (block i (decls_from v.first v.nodes.now) ps cs)
        block_coms_bad i f h = sym (through i cs ∙ ap (λ o. o >>= λ n. Ok (length (decls_from v.first v.nodes.now) + n)) (sym (h cs after.0 ir after.2)))

        pub block_well : (i n : ℕ) → ComsSays d r (Ok n) → Ok (length v.nodes.now + n) ≡ check_com ρ (block i (decls_from v.first v.nodes.now) ps cs)
        block_well i n h =
            sym (through i cs ∙ ap (λ o. o >>= λ n. Ok (length (decls_from v.first v.nodes.now) + n)) (sym (h cs after.0 ir after.2)) ∙ ap (λ k. Ok (k + n)) (decls_long v.nodes.now v.first))

        pub block_small : (B n : ℕ) → Bounded B ρ → ComsSays d r (Ok n) → n ≤ B + (long q + long r)
        block_small B n h k =
            omega (
              arith,
              iq.whole,
              ir.whole,
              coms_bound cs (B + size_procs ps) after.0 n
                  (procs_bound ps B B (variables (decls_from v.first v.nodes.now) (without (proc_names ps) ρ)) [] (variables (decls_from v.first v.nodes.now) ρ) after.0
                  (bounded_vars B (decls_from v.first v.nodes.now) _ (bounded_without B (proc_names ps) ρ h)) (bounded_vars B (decls_from v.first v.nodes.now) ρ h) (omega arith) after.1)
                  (sym (k cs after.0 ir after.2)),
            )

  pub pass_block_coms : (d : Checker) (s : SomeBlock a v q r) → Ok tt ≡ check_decls [] (decls_from v.first v.nodes.now) → ProcsSays c q inner (Ok tt) d
      → Grown c d (how_many_procs s.ps) → SomeComs d r
  pass_block_coms d s names done k =
      let g = hidden_grown s.ps s.procedures in
      record {
        cs = s.cs;
        is = s.commands;
        lies = lies_on (k.table ∙ same_table s.ps s.procedures) s.commands_lie;
        seen = after_sighted s.ps s.seen.ρ s.procedures s.seen.looks names d done s.seen.B (long r) s.seen.bounded (omega (arith, s.seen.fits));
        roomy = omega (arith, s.roomy, s.procedures.whole, two_each s.ps, g.top, g.long, entered_grown.top, entered_grown.long, k.top, k.long);
      }
