-- where a session of the connection stands is its place, since it stands nowhere else
use Rattle.std.proofs.Common.{◌∙◌, ◌==◌, ap, sym, refl, length, position, List, ℕ}
use Rattle.std.proofs.lemmas.Option.{slice_get_read}
use Rattle.std.proofs.lemmas.Bool.{ltb-true}
use Rattle.std.proofs.lemmas.Map.Made.{AllPairs-from_IsDistinct}
use Rattle.std.proofs.lemmas.Bool.Decides.{Decides-eqb}
use Rattle.world_sessions.proofs.deliveries.Places.{position_by_key, place_hinted}
use Rattle.world_sessions.proofs.deliveries.plan.place_in.Goals as goal

pub returns-then-session-conn : goal.returns-then-session-conn
returns-then-session-conn c =
    place_hinted c.args.by.conns.now c.args.conn c.hint-hint.result c.args.by.list.now c.in-Some.session.now
    (AllPairs-from_IsDistinct Decides-eqb c.args.by.conns.now c.prove_invariant.ensures)
    c.requires
    (slice_get_read c.args.by.list.now (length c.args.by.list.now) c.hint-hint.result c.in-Some.session.now refl (ltb-true _ _ (sym c.in-Some.ensures.lookup.0)) c.in-Some.ensures.lookup.1)
    c.if-session-conn.true

pub returns : goal.returns
returns c =
    c.find-place.ensures
    ∙ ap (λ (ks : List ℕ). position (λ k. c.args.conn == k) ks) c.requires
    ∙ position_by_key c.args.conn c.args.by.list.now
