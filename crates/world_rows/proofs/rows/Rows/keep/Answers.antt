-- what is kept is what passes the test
use Rattle.std.proofs.Common.{◌≡◌, ◌∙◌, ap, rules, Bool, ℕ, filter}
use Rattle.std.proofs.lemmas.Fn.{filter_same}
use Rattle.stores.proofs.numbered_slots.Places.{kept_slots, entries_left, rising_left}
use Rattle.world_rows.specs.Rows.{id_of, held}
use Rattle.world_rows.specs.declared.subscription.Subscription.{Subscription}
use Rattle.world_rows.proofs.Places.{full_left}
use Rattle.world_rows.proofs.rows.Rows.keep.Goals as goal

pub invariant_of-self : goal.invariant_of-self
invariant_of-self g c =
    let p : Subscription → Bool = g.K.Keeps.keeps c.args.test.now in
    let kept : c.retain.new.self.items ≡ kept_slots held p c.self.inside.rows.items = filter_same _ _ _ (λ x b f' called. search rules) _ _ c.retain.ensures.filtered in
    (rising_left id_of held p c.self.inside.rows.items c.retain.new.self.items kept c.self.invariant.0, full_left p c.self.inside.rows.items c.retain.new.self.items kept)

pub returns : goal.returns
returns g c =
    entries_left id_of held (g.K.Keeps.keeps c.args.test.now) c.self.inside.rows.items c.retain.new.self.items
    (filter_same _ _ _ (λ x b f' called. search rules) _ _ c.retain.ensures.filtered)
    ∙ ap (filter (λ (e : ℕ × Subscription). g.K.Keeps.keeps c.args.test.now e.1)) c.self.view_is
