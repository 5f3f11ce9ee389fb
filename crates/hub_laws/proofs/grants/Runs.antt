-- Runs of two hubs, of which one drops what is dead at each event.
use Rattle.std.proofs.Common.{◌≡◌, ◌∙◌, List, [], ◌∷◌, Result, Ok, Err, ap, sym, refl}
use Rattle.events.specs.declared.event.Event.{Event}
use Rattle.events.specs.declared.answer.Outcome.{Outcome}
use Rattle.events.specs.declared.refusal.HubRefusal.{HubRefusal}
use Rattle.world.specs.World.{World, opening_world}
use Rattle.world.specs.Transition.{transition}
use Rattle.hub_laws.specs.grants.Noted.{Step, steps_of}
use Rattle.hub_laws.specs.grants.Dropping.{settled, dropping, AreAlike, answer_in, world_after, answers_to, NeverMakesDifference}
use Rattle.hub_laws.proofs.grants.Law.{alike_at}
use Rattle.hub_laws.proofs.grants.History.{Told, tables_are, Keeps, step-told, told-opening, run-told}

ever : (done : List Step) (w v : World) (events : List Event) → Told done w.moment w.sessions → settled v ≡ settled w → answers_to dropping v events ≡ answers_to transition w events
unfolding answers_to
ever done w v [] t same = refl
ever done w v (e ∷ es) t same =
    here (transition w e) (dropping v e) (alike_at w v e t.apart (tables_are done w e.now t) same) (step-told done w e.now t e.what)
    (λ more x y is alike. ever more x y es is alike)
  where
    here : (r s : Result (Outcome × World) HubRefusal) → AreAlike r s → Keeps done w e.now t e.what r →
        ((more : List Step) (x y : World) → Told more x.moment x.sessions → settled y ≡ settled x → answers_to dropping y es ≡ answers_to transition x es) →
        answer_in s ∷ answers_to dropping (world_after v s) es ≡ answer_in r ∷ answers_to transition (world_after w r) es
    here (Ok r) (Ok s) alike keeps later =
        ap (λ o. Ok o ∷ answers_to dropping s.1 es) (sym alike.0) ∙ ap (λ rest. Ok r.0 ∷ rest) (later _ r.1 s.1 (keeps.0 0 0) alike.1)
    here (Err a) (Err b) alike keeps later =
        ap (λ x. Err x ∷ answers_to dropping v es) (sym alike) ∙ ap (λ rest. Err a ∷ rest) (later done w v t same)
    here (Ok r) (Err b) alike keeps later = absurd alike
    here (Err a) (Ok s) alike keeps later = absurd alike

pub never_difference : NeverMakesDifference
never_difference policy capacity es w v events run same = ever (steps_of (opening_world policy capacity) es) w v events (run-told [] es (opening_world policy capacity) w (told-opening policy capacity) run) same
