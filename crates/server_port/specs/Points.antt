-- The points of its gate that a port passes.
use Rattle.std.specs.Prelude.{◌≡◌, ◌∷◌, ◌||◌, [], List, Bool, Option, None, Some, not}
use Rattle.server_port.specs.declared.gates.gate.Point.{Point}
use Rattle.server_port.specs.declared.gates.gate.Point.TheVariants.{FrameRead, Answered}
use Rattle.worker_port.specs.declared.course.Why.{Why}

-- a gate, a point, whether the gate lets it pass, and the gate then
abbrev pub Passes : Type 0 → Type 1
Passes G = G → Point → Bool → G → Type 0

-- The points were passed, one after the other. Where the gate lets one pass no more, it is spent for good.
abbrev pub ArePassed : {G : Type 0} → Passes G → List Point → G → Bool → G → Bool → Type 0
ArePassed passes [] gate spent gate' spent' = (gate' ≡ gate) × (spent' ≡ spent)
ArePassed {G} passes (point ∷ points) gate spent gate' spent' =
    (lets : Bool) × ((next : G) × passes gate point lets next × ArePassed passes points next (spent || not lets) gate' spent')

-- a message has its answer, unless it is held back
abbrev pub answered_if : Option Why → List Point
answered_if None = Answered ∷ []
answered_if (Some why) = []

-- a message is read, and has its answer unless it is held back
abbrev pub offer_points : Option Why → List Point
offer_points why = FrameRead ∷ answered_if why
