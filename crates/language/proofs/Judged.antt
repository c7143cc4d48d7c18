-- All questions of check together.
use Rattle.std.proofs.Common.{◌≡◌, ℕ, ◌+◌, ◌≤◌, true, ◌&&◌, leb, length, Ok, refl, ap, subst}
use Rattle.std.proofs.lemmas.Bool.{and_parts, and_from, leb-true, le-leb}
use Rattle.language.specs.Tree.{Com}
use Rattle.language.specs.Table.{build}
use Rattle.language.specs.Spelling.{Spells}
use Rattle.language.specs.Names.{check_rule}
use Rattle.language.specs.WellFormed.{Formed}
use Rattle.language.specs.Check.{right_size, long_enough, check}
use Rattle.language.specs.Laws.{JudgedExactly}
use Rattle.language.proofs.Binds.{ok_is, bind_ok, asked_ok}
use Rattle.language.proofs.Accepted.{accepted_exactly}
use Rattle.language.proofs.Read.{built_exactly}

pub judged_exactly : JudgedExactly
judged_exactly nodes l m k c = (there, back)
  where
    there : (need : ℕ) × (check nodes l m k ≡ Ok (c, need))
        → (1 ≤ (length nodes)) × ((length nodes) ≤ 4096) × ((length nodes) + 2 ≤ l) × ((length nodes) + 2 ≤ m) × ((length nodes) + 2 ≤ k) × Spells nodes c × Formed c
    there h =
        let (need, e) = h in
        let (s, e₁) = asked_ok (right_size (length nodes)) _ _ (c, need) e in
        let (w, e₂) = asked_ok (long_enough (length nodes) l m k) _ _ (c, need) e₁ in
        let (d, b, e₃) = bind_ok (build nodes) _ (c, need) e₂ in
        let (u, r, e₄) = bind_ok (check_rule d) _ (c, need) e₃ in
        let same : d ≡ c = ap (λ (p : Com × ℕ). p.0) (ok_is e₄) in
        let (s₁, s₂) = and_parts (leb 1 (length nodes)) (leb (length nodes) 4096) s in
        let (w₁, w₃) = and_parts (leb ((length nodes) + 2) l && leb ((length nodes) + 2) m) (leb ((length nodes) + 2) k) w in
        let (w₁, w₂) = and_parts (leb ((length nodes) + 2) l) (leb ((length nodes) + 2) m) w₁ in (
          leb-true 1 (length nodes) s₁,
          leb-true (length nodes) 4096 s₂,
          leb-true ((length nodes) + 2) l w₁,
          leb-true ((length nodes) + 2) m w₂,
          leb-true ((length nodes) + 2) k w₃,
          subst (Spells nodes) same ((built_exactly nodes d).0 b),
          subst Formed same ((accepted_exactly d).0 (u, r)),
        )

    back : ((1 ≤ (length nodes)) × ((length nodes) ≤ 4096) × ((length nodes) + 2 ≤ l) × ((length nodes) + 2 ≤ m) × ((length nodes) + 2 ≤ k) × Spells nodes c × Formed c)
        → (need : ℕ) × (check nodes l m k ≡ Ok (c, need))
    back h =
        let (s₁, s₂, w₁, w₂, w₃, sp, f) = h in
        let (need, r) = (accepted_exactly c).1 f in
        let s : right_size (length nodes) ≡ true = and_from (leb 1 (length nodes)) (leb (length nodes) 4096) (le-leb 1 (length nodes) s₁) (le-leb (length nodes) 4096 s₂) in
        let w : long_enough (length nodes) l m k ≡ true = and_from (leb ((length nodes) + 2) l && leb ((length nodes) + 2) m) (leb ((length nodes) + 2) k) (and_from (leb ((length nodes) + 2) l) (leb ((length nodes) + 2) m) (le-leb ((length nodes) + 2) l w₁) (le-leb ((length nodes) + 2) m w₂)) (le-leb ((length nodes) + 2) k w₃) in
        (need, rw (s, w, (built_exactly nodes c).1 sp, r) refl)
