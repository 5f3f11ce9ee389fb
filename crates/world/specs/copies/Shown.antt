-- What is shown of a standing subscription.
use Rattle.world_rows.specs.declared.subscription.Subscription.{Subscription}
use Rattle.world.specs.declared.copies.standing.Standing.{Standing}

abbrev pub standing_of : Subscription → Standing
standing_of s = record { id = s.id; conn = s.conn; subject = s.subject; queue = s.queue; sid = s.sid; received = s.received; most = s.most }
