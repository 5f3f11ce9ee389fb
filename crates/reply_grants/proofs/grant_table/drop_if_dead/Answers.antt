-- the one at the place stays, or is moved in front of those that stay
use Rattle.std.proofs.Common.{◌∙◌, ◌+◌, sym, ap}
use Rattle.reply_grants.specs.Grants.{is_live}
use Rattle.reply_grants.specs.Window.{so_far}
use Rattle.reply_grants.proofs.Places.{with_key}
use Rattle.reply_grants.proofs.Drops.{one_live, one_dead}
use Rattle.reply_grants.proofs.grant_table.drop_if_dead.Goals as goal

pub returns-then-is_live-clause-stay : goal.returns-then-is_live-clause-stay
returns-then-is_live-clause-stay c =
    let it = with_key c.args.table.now.entries c.args.place c.index.result.now c.index.ensures in
    sym (one_live (is_live c.args.now c.args.terms) _ c.args.gone c.args.place _ c.requires.0 it.1 (sym (c.is_live.ensures it.0) ∙ c.if-is_live.true))

pub returns-clause-stay : goal.returns-clause-stay
returns-clause-stay c =
    let live = is_live c.args.now c.args.terms in
    let it = with_key c.args.table.now.entries c.args.place c.index.result.now c.index.ensures in
    ap (λ es. so_far live (c.args.gone + 1) (c.args.place + 1) es) c.move_index.ensures.entries
    ∙ sym (one_dead live c.args.table.now.entries c.args.gone c.args.place _ c.requires.0 it.1 (sym (c.is_live.ensures it.0) ∙ c.if-is_live.false))
