-- each Take prints what it comes to, until none is to be made or the history is full
use Rattle.std.proofs.Common.{◌≡◌, ◌∙◌, ◌-◌, ◌+◌, Bool, suc, Some, arith, ap, refl}
use Rattle.script.specs.Play.{pending_effect, takes}
use Rattle.script.proofs.Takes.{taking_none, taking_some, taking_full, taking_zero, IsClientEffectIf-same}
use Rattle.script.proofs.client.Client.take_all.Goals as goal

pub returns-in-None : goal.returns-in-None
returns-in-None c =
    taking_none (c.args.most - c.taking.counter) c.taking.server c.take_if_pending.new.server c.taking.self c.take_if_pending.new.self
    c.taking.out.items c.take_if_pending.new.out.items c.args.out.now.items (takes c.args.most c.args.server.now c.args.self.now)
    (pending_effect c.taking.server c.taking.self) refl
    (IsClientEffectIf-same _ _ _ _ _ _ _ _ _ c.in-None.is c.in_ok-take_if_pending.ensures) c.taking.invariant

pub returns-then-full : goal.returns-then-full
returns-then-full c =
    let left : c.args.most - c.taking.counter ≡ suc (c.args.most - (c.taking.counter + 1)) = omega arith in
    taking_full (c.args.most - c.taking.counter) (c.args.most - (c.taking.counter + 1)) c.taking.server c.take_if_pending.new.server c.taking.self c.take_if_pending.new.self
    c.taking.out.items c.take_if_pending.new.out.items c.args.out.now.items (takes c.args.most c.args.server.now c.args.self.now)
    (pending_effect c.taking.server c.taking.self) refl left
    (IsClientEffectIf-same _ _ _ _ _ _ _ _ _ (c.in-Some.is ∙ ap (λ (b : Bool). Some b) c.if-full.true) c.in_ok-take_if_pending.ensures) c.taking.invariant

pub taking-preserved : goal.taking-preserved
taking-preserved c =
    let left : c.args.most - c.taking.counter ≡ suc (c.args.most - (c.taking.counter + 1)) = omega arith in
    taking_some (c.args.most - c.taking.counter) (c.args.most - (c.taking.counter + 1)) c.taking.server c.take_if_pending.new.server c.taking.self c.take_if_pending.new.self
    c.taking.out.items c.take_if_pending.new.out.items c.args.out.now.items (takes c.args.most c.args.server.now c.args.self.now)
    (pending_effect c.taking.server c.taking.self) refl left
    (IsClientEffectIf-same _ _ _ _ _ _ _ _ _ (c.in-Some.is ∙ ap (λ (b : Bool). Some b) c.if-full.false) c.in_ok-take_if_pending.ensures) c.taking.invariant

pub returns : goal.returns
returns c =
    let spent : c.args.most - c.taking.counter ≡ 0 = omega arith in
    taking_zero (c.args.most - c.taking.counter) c.taking.server c.taking.self c.taking.out.items c.args.out.now.items (takes c.args.most c.args.server.now c.args.self.now) spent c.taking.invariant
