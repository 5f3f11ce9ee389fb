use Rattle.service_routes.proofs.service_rows.Same.{by_tokens}
use Rattle.service_routes.proofs.service_rows.renewed.is_same_pattern.Goals as goal

pub returns : goal.returns
returns c = by_tokens c.args.one.now c.args.other.now c.is_like.result c.is_like.ensures
