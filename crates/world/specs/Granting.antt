-- What a grant allows, and what is counted on it (docs/GUARANTEE.md, "Reply grants").
pub use Rattle.world_routing.specs.Granting.{or_granted, verdict_on, counted_on, ended_on}
