use Rattle.std.proofs.Common.{◌≡◌, ◌+◌, ◌-◌, take, drop, length-append, ◌∙◌, arith}
use Rattle.std.proofs.lemmas.Result.{err_from_is_err_and}
use Rattle.std.proofs.lemmas.Slice.Zip.{zip_turn}
use Rattle.std.specs.Slice.Iter.{iter_rest}
use Rattle.std.specs.Iterator.Adapters.{zip_first, zip_second}
use Rattle.table.specs.Stretches.{blank}
use Rattle.run.proofs.Opens.{binding_first, binding_more, binding_stop}
use Rattle.run.proofs.Sights.{linked_down}
use Rattle.run.proofs.Slices.{stretch_at, stretch_within}
use Rattle.run.proofs.blocks.bind_arguments.Goals as goal

pub loop-argument-init : goal.loop-argument-init
loop-argument-init c =
    let s = c.args.scope.now in
    binding_first _ _ _ _ _ _ _ c.requires.seen (linked_down s.records.now s.top s.within s.down)

pub returns-in_err-location-clause-bound : goal.returns-in_err-location-clause-bound
returns-in_err-location-clause-bound c =
    let p = err_from_is_err_and c.from_residual.result c.from_residual.ensures.1 in
    let ns = c.args.table.nodes.now in
    let g = c.into_iter-argument-iterator.ensures.into_iter_gives in
    let z = c.zip-argument-items.ensures in
    let first : iter_rest (zip_first c.into_iter-argument-iterator.result) ≡ take (c.args.arguments + c.args.count - c.args.arguments) (drop c.args.arguments ns) = rw (g, z.first) c.iter.ensures.rest in
    let second : iter_rest (zip_second c.into_iter-argument-iterator.result) ≡ take (c.args.formals + c.args.count - c.args.formals) (drop c.args.formals ns) = rw g z.second.0 in
    let t = zip_turn _ _ _ c.into_iter-argument-iterator.result c.loop-argument.argument-iterator c.next.new.self _ first second c.loop-argument.yielded_by (c.in-Some.argument, c.in-Some.formal) c.in-Some.is c.next.ensures.steps in
    let o = c.loop-argument.invariant in
    let s = c.args.scope.now in
    let f = c.see_from.ensures in
    let seen = (rw c.unwrap.ensures at f.head_after) ∙ c.position-caller.ensures.head in
    let e = rw (f.records_kept, seen) at c.in_err-location.ensures.location in
    let a = t.2 blank ∙ stretch_at ns c.args.arguments c.args.count _ blank t.0 in
    rw (p.1, p.2) (binding_stop _ _ _ _ _ _ _ _ _ _ _ _ _ _ o s.low s.within (stretch_within ns c.args.arguments c.args.count _ t.0) a e)

pub loop-argument-preserved : goal.loop-argument-preserved
loop-argument-preserved c =
    let ns = c.args.table.nodes.now in
    let g = c.into_iter-argument-iterator.ensures.into_iter_gives in
    let z = c.zip-argument-items.ensures in
    let first : iter_rest (zip_first c.into_iter-argument-iterator.result) ≡ take (c.args.arguments + c.args.count - c.args.arguments) (drop c.args.arguments ns) = rw (g, z.first) c.iter.ensures.rest in
    let second : iter_rest (zip_second c.into_iter-argument-iterator.result) ≡ take (c.args.formals + c.args.count - c.args.formals) (drop c.args.formals ns) = rw g z.second.0 in
    let t = zip_turn _ _ _ c.into_iter-argument-iterator.result c.loop-argument.argument-iterator c.next.new.self _ first second c.loop-argument.yielded_by (c.in-Some.argument, c.in-Some.formal) c.in-Some.is c.next.ensures.steps in
    let o = c.loop-argument.invariant in
    let s = c.args.scope.now in
    let f = c.see_from.ensures in
    let h = c.see_from-in-loop-argument.ensures in
    let n = c.enter.ensures in
    let seen = (rw c.unwrap.ensures at f.head_after) ∙ c.position-caller.ensures.head in
    let inner = rw c.unwrap-in-loop-argument.ensures at h.head_after in
    let e = rw (f.records_kept, seen) at c.in_ok-location.ensures.location in
    let r = rw (c.unwrap-in-loop-argument-2.ensures, h.records_kept, f.records_kept, h.top_kept, f.top_kept, inner) at n.others_kept in
    let u = rw (c.unwrap-in-loop-argument-2.ensures, h.top_kept, f.top_kept) at n.top_after in
    let q = c.position-inner.ensures.head ∙ (rw (c.unwrap-in-loop-argument-2.ensures, h.top_kept, f.top_kept) at n.head_after) in
    let a = t.2 blank ∙ stretch_at ns c.args.arguments c.args.count _ blank t.0 in
    let b = t.3 blank ∙ stretch_at ns c.args.formals c.args.count _ blank t.1 in
    rw (length-append c.loop-argument.yielded _) (binding_more _ _ _ _ _ _ _ _ _ _ _ _ _ _ _ _ _ o s.low s.within (omega (arith, o.top, o.long, c.requires.room, stretch_within ns c.args.arguments c.args.count _ t.0)) a b e r u q)
