-- Points that are passed one after the other.
use Rattle.std.proofs.Common.{◌≡◌, ◌∙◌, ◌∷◌, ◌++◌, ◌+◌, ◌||◌, [], ℕ, Bool, List, not, refl, subst, sym, replicate}
use Rattle.std.proofs.lemmas.List.{replicate_more}
use Rattle.server_port.specs.declared.gates.gate.Point.{Point}
use Rattle.server_port.specs.Points.{ArePassed, Passes}

pub one_passed : {G : Type 0} (passes : Passes G) (p : Point) (g d : G) (s v : Bool)
    → ((lets : Bool) × passes g p lets d × (v ≡ (s || not lets))) → ArePassed passes (p ∷ []) g s d v
one_passed passes p g d s v (lets, first, is) = (lets, (d, first, (refl, is)))

-- a point, and others once nothing has changed since
pub passed_on : {G : Type 0} (passes : Passes G) (p : Point) (ps : List Point) (g a b d : G) (s t u v : Bool)
    → ((lets : Bool) × passes g p lets a × (t ≡ (s || not lets))) → b ≡ a → u ≡ t → ArePassed passes ps b u d v → ArePassed passes (p ∷ ps) g s d v
passed_on passes p ps g a b d s t u v (lets, first, is) same equal rest =
    let on = subst (λ y. ArePassed passes ps b y d v) (equal ∙ is) rest in
    (lets, (a, first, subst (λ x. ArePassed passes ps x (s || not lets) d v) same on))

-- some points, and then others
pub passed_then : {G : Type 0} (passes : Passes G) (ps qs : List Point) (g a d : G) (s t v : Bool)
    → ArePassed passes ps g s a t → ArePassed passes qs a t d v → ArePassed passes (ps ++ qs) g s d v
passed_then passes [] qs g a d s t v (same, equal) rest =
    subst (λ x. ArePassed passes qs x s d v) same (subst (λ y. ArePassed passes qs a y d v) equal rest)
passed_then passes (p ∷ ps) qs g a d s t v (lets, (next, first, more)) rest =
    (lets, (next, first, passed_then passes ps qs next a d (s || not lets) t v more rest))

-- the same, where nothing has changed before or since
pub passed_from : {G : Type 0} (passes : Passes G) (ps : List Point) (g a d : G) (s t v : Bool)
    → a ≡ g → t ≡ s → ArePassed passes ps a t d v → ArePassed passes ps g s d v
passed_from passes ps g a d s t v same equal rest = passed_then passes [] ps g a d s t v (same, equal) rest

pub passed_to : {G : Type 0} (passes : Passes G) (ps : List Point) (g a d : G) (s t v : Bool)
    → ArePassed passes ps g s a t → d ≡ a → v ≡ t → ArePassed passes ps g s d v
passed_to passes ps g a d s t v done same equal =
    subst (λ x. ArePassed passes ps g s x v) (sym same) (subst (λ y. ArePassed passes ps g s a y) (sym equal) done)

-- a point, once more
pub passed_once_more : {G : Type 0} (passes : Passes G) (n : ℕ) (p : Point) (g a d : G) (s t v : Bool)
    → ArePassed passes (replicate n p) g s a t → ArePassed passes (p ∷ []) a t d v → ArePassed passes (replicate (n + 1) p) g s d v
passed_once_more passes n p g a d s t v done last =
    subst (λ (ps : List Point). ArePassed passes ps g s d v) (replicate_more n p) (passed_then passes (replicate n p) (p ∷ []) g a d s t v done last)

-- a relation to what there was before and will be behind, where nothing else has changed
pub between : {X : Type 0} (R : X → X → Type 0) (a b d e : X) → b ≡ a → R b d → e ≡ d → R a e
between R a b d e before h after = subst (λ x. R x e) before (subst (λ x. R b x) (sym after) h)
