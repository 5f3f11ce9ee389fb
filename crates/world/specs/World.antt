-- The world: all that the tables hold (docs/GUARANTEE.md, "The world").
pub use Rattle.world_routing.specs.World.{World, opening_world, advanced}
