-- An answer beside each session.
use Rattle.std.proofs.Common.{◌≡◌, ◌∙◌, ◌+◌, ◌<◌, ◌++◌, ◌∷◌, ℕ, Bool, true, false, Decides, List, [], length, get_or, nat_lt, ap, sym, refl, subst, arith}
use Rattle.std.specs.Prelude.{IsSomeAnd}
use Rattle.std.proofs.lemmas.Bool.{ltb-true, ltb-false}
use Rattle.std.proofs.lemmas.List.{length-append, get_or_push, get_or_append_left}
use Rattle.policy_doc.specs.declared.document.PolicyDoc.{PolicyDoc}
use Rattle.world_sessions.specs.deliveries.Sessions.{session_of, IsPlace}
use Rattle.world_sessions.specs.Renewal.{HasSameLists, AreSameSoFar, AreSameLists}
use Rattle.world_sessions.specs.declared.deliveries.session.Session.{Session}

-- the answer at a connection's place is that of its session
pub answer_at : (zs : List Session) (conn place : ℕ) (same : List Bool) (answer : Bool) → IsPlace conn zs place → get_or same place false ≡ answer →
    (doc : PolicyDoc) → AreSameLists doc zs same → Decides answer (IsSomeAnd (session_of zs conn) (HasSameLists doc))
answer_at [] conn place same answer stands is doc are = let within = stands.within in absurd (omega (arith, within))
answer_at (z ∷ zs) conn place same answer stands is doc are =
    let within : place < length same = omega (arith, stands.within, are.0) in
    subst (λ o. Decides answer (IsSomeAnd o (HasSameLists doc))) (sym (stands.here z))
    (subst (λ (b : Bool). Decides b (HasSameLists doc (get_or (z ∷ zs) place z))) is (are.1 place z within))

-- one more answer
pub length_more : (answers more : List Bool) (b : Bool) (n : ℕ) → length answers ≡ n → more ≡ answers ++ b ∷ [] → length more ≡ n + 1
length_more answers more b n all is = ap (λ (bs : List Bool). length bs) is ∙ length-append answers (b ∷ []) ∙ ap (λ m. m + 1) all

pub same_more : (doc : PolicyDoc) (zs : List Session) (answers more : List Bool) (b : Bool) (n : ℕ) → length answers ≡ n → AreSameSoFar doc zs answers → more ≡ answers ++ b ∷ [] →
    ((d : Session) → Decides b (HasSameLists doc (get_or zs n d))) → AreSameSoFar doc zs more
same_more doc zs answers more b n all before is last i d below =
    subst (λ (bs : List Bool). Decides (get_or bs i false) (HasSameLists doc (get_or zs i d))) (sym is) (at (nat_lt i n) refl)
  where
    at : (c : Bool) → nat_lt i n ≡ c → Decides (get_or (answers ++ b ∷ []) i false) (HasSameLists doc (get_or zs i d))
    at true e =
        let earlier : i < n = ltb-true i n e in
        let within : i < length answers = omega (arith, earlier, all) in
        subst (λ (x : Bool). Decides x (HasSameLists doc (get_or zs i d))) (sym (get_or_append_left answers (b ∷ []) false i within)) (before i d within)
    at false e =
        let same : n ≡ i = omega (arith, ltb-false i n e, below, length_more answers more b n all is) in
        subst (λ (x : Bool). Decides x (HasSameLists doc (get_or zs i d))) (sym (get_or_push answers b false i (all ∙ same)))
        (subst (λ k. Decides b (HasSameLists doc (get_or zs k d))) same (last d))
