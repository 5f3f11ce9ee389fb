-- under the subject that its account's mappings say
use Rattle.std.proofs.Common.{Option, Some, Ok, subst}
use Rattle.account_mappings.specs.Drawing.{mapped_by}
use Rattle.world_routing.specs.Publishing.{IsElsewhere}
use Rattle.world_routing.specs.declared.planning.Elsewhere.{Elsewhere}
use Rattle.world_routing.proofs.Drawn.{goes_under}
use Rattle.world_routing.proofs.planning.keep_drawn.Goals as goal

pub fill_drawn-requires-clause-mapped : goal.fill_drawn-requires-clause-mapped
fill_drawn-requires-clause-mapped c =
    let mapped = mapped_by c.args.search.publisher.now.user.mappings c.args.message.now.subject c.args.word in
    goes_under mapped c.in-Under.other
    (subst (λ (e : Elsewhere). IsElsewhere mapped (Ok (Some e))) c.in-Under.is
    (subst (λ (o : Option Elsewhere). IsElsewhere mapped (Ok o)) c.in-Some.is c.requires.elsewhere))
