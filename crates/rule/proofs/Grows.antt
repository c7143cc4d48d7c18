-- What a checker sees while records are entered, and when it goes back.
use Rattle.std.proofs.Common.{◌≡◌, ℕ, ◌+◌, ◌≤◌, List, length, refl, ap, ◌∙◌, sym, subst, arith}
use Rattle.language.specs.declared.tables.Node.{Node}
use Rattle.scope.specs.Sight.{in_sight}
use Rattle.scope.specs.declared.Record.{Record}
use Rattle.rule.specs.declared.checker.Checker.{Checker}
use Rattle.rule.specs.declared.entries.Entry.{Entry}
use Rattle.rule.specs.Seen.{Names, Looks, sight, sight_from, Sees, SeesFrom, Grown, Kept, Turned, Returned}

pub grown_none : (a : Checker) → Grown a a 0
grown_none a = record { table = refl; top = omega arith; long = refl; older = λ h le. refl }

pub grown_then : {a b c : Checker} {d e : ℕ} → Grown a b d → Grown b c e → Grown a c (d + e)
grown_then {a} {b} {c} {d} {e} p q =
    record {
      table = q.table ∙ p.table;
      top = omega (arith, p.top, q.top);
      long = q.long ∙ p.long;
      older = λ h le. q.older h (omega (arith, p.top)) ∙ p.older h le;
    }

pub grown_as : {a b : Checker} {d e : ℕ} → d ≡ e → Grown a b d → Grown a b e
grown_as {a} {b} q g = subst (λ (n : ℕ). Grown a b n) q g

pub kept_same : (a : Checker) → Kept a a
kept_same a = record { table = refl; top = refl; head = refl; long = refl; older = λ h le. refl }

pub kept_then : {a b c : Checker} → Kept a b → Kept b c → Kept a c
kept_then {a} {b} {c} p q =
    record {
      table = q.table ∙ p.table;
      top = q.top ∙ p.top;
      head = q.head ∙ p.head;
      long = q.long ∙ p.long;
      older = λ h le. q.older h (omega (arith, p.top)) ∙ p.older h le;
    }

pub kept_sight : {a b : Checker} → Kept a b → a.scope.head ≤ a.scope.top → sight b ≡ sight a
kept_sight {a} {b} k le = ap (sight_from b) k.head ∙ k.older a.scope.head le

pub looks_as : {s t : List Node} {σ τ : List (ℕ × Entry)} {ρ : Names} → t ≡ s → τ ≡ σ → Looks s σ ρ → Looks t τ ρ
looks_as {s} {t} {σ} {τ} {ρ} q e h = subst (λ (x : List Node). Looks x τ ρ) (sym q) (subst (λ (x : List (ℕ × Entry)). Looks s x ρ) (sym e) h)

pub kept_sees : {a b : Checker} (ρ : Names) → Kept a b → Sees a ρ → Sees b ρ
kept_sees {a} ρ k h = looks_as k.table (kept_sight k a.scope.low) h

pub grown_sees : {a b : Checker} {d : ℕ} (h : ℕ) (ρ : Names) → Grown a b d → h ≤ a.scope.top → SeesFrom a h ρ → SeesFrom b h ρ
grown_sees h ρ g le s = looks_as g.table (g.older h le) s

pub grown_kept : {a b c : Checker} {d : ℕ} → Grown a b d → Kept b c → Grown a c d
grown_kept {a} {b} {c} {d} g k =
    record { table = k.table ∙ g.table; top = k.top ∙ g.top; long = k.long ∙ g.long; older = λ h le. k.older h (omega (arith, g.top)) ∙ g.older h le }

-- looking from elsewhere
pub grown_turned : {a b : Checker} {h : ℕ} → Turned a b h → Grown a b 0
grown_turned {a} {b} t =
    record {
      table = t.table;
      top = t.top ∙ omega arith;
      long = ap (λ (l : List (Record Entry)). length l) t.records;
      older = λ h le. ap (λ (l : List (Record Entry)). in_sight l h) t.records;
    }

pub turned_sight : {a b : Checker} {h : ℕ} → Turned a b h → sight b ≡ sight_from a h
turned_sight {a} {b} {h} t = ap (λ (l : List (Record Entry)). in_sight l b.scope.head) t.records ∙ ap (sight_from a) t.head

pub turned_sees : {a b : Checker} {h : ℕ} (ρ : Names) → Turned a b h → SeesFrom a h ρ → Sees b ρ
turned_sees {a} {b} {h} ρ t s = looks_as t.table (turned_sight t) s

-- going back
pub back_kept : {a x y : Checker} {d t h : ℕ} → Grown a x d → Returned x y t h → t ≡ a.scope.top → h ≡ a.scope.head → Kept a y
back_kept {a} {x} {y} {d} g r t h =
    record {
      table = r.table ∙ g.table;
      top = r.top ∙ t;
      head = r.head ∙ h;
      long = ap (λ (l : List (Record Entry)). length l) r.records ∙ g.long;
      older = λ k le. ap (λ (l : List (Record Entry)). in_sight l k) r.records ∙ g.older k le;
    }
