-- the hub goes on from the present world, which what it held has reached
use Rattle.std.proofs.Common.{◌≡◌, [], arith}
use Rattle.std.proofs.lemmas.Grind.{common_steps}
use Rattle.hub.proofs.Parts.{kept-rotation}
use Rattle.hub.proofs.hub.Hub.rotate.Goals as goal

pub invariant_of-self : goal.invariant_of-self
invariant_of-self c =
    let opening : c.replace-opening.new.dest ≡ c.self.inside.world = grind (arith, common_steps) in
    let none : c.replace-entries.new.dest.entries ≡ [] = grind (arith, common_steps) in
    kept-rotation _ _ _ _ _ _ c.self.invariant.0 c.self.invariant.1 c.self.invariant.3 opening none
