-- How a run of Takes goes on.
use Rattle.std.proofs.Common.{◌≡◌, ◌∙◌, ◌++◌, ℕ, zero, suc, Bool, true, false, List, Option, Some, None, ap, sym, refl, subst}
use Rattle.std.proofs.lemmas.List.{append_assoc, append-nil}
use Rattle.script.specs.Server.{Serving}
use Rattle.script.specs.declared.client.Client.{Client}
use Rattle.script.specs.Play.{ClientEffect, quiet, behind, goes_on, pending_effect, if_any, takes, IsClientEffect, IsClientEffectIf}

-- what is left to come, behind what is written, is what all comes to
pub record Completes (written : List ℕ) (rest : ClientEffect) (start : List ℕ) (all : ClientEffect) : Type 0 where
  pub text : written ++ rest.text ≡ start ++ all.text
  pub client : rest.client ≡ all.client
  pub server : rest.server ≡ all.server
  pub full : rest.full ≡ all.full

-- nothing is left to come
pub completes_done : (written start : List ℕ) (all : ClientEffect) (w : Serving) (k : Client) →
    Completes written (quiet k w) start all → IsClientEffect all start written k w false
completes_done written start all w k h = record {
  text = sym (append-nil written) ∙ h.text;
  client_is = h.client;
  server_is = h.server;
  full_is = h.full;
}

-- one Take, and then the rest
pub completes_more : (written after start : List ℕ) (all t : ClientEffect) (w : Serving) (k : Client) (more : Serving → Client → ClientEffect) →
    IsClientEffect t written after k w false → Completes written (goes_on t t.full more) start all → Completes after (more w k) start all
completes_more written after start all t w k more is h =
    let same : goes_on t t.full more ≡ behind t.text (more w k) =
    ap (λ (b : Bool). goes_on t b more) (sym is.full_is) ∙ ap (λ (v : Serving). behind t.text (more v t.client)) (sym is.server_is) ∙ ap (λ (x : Client). behind t.text (more w x)) (sym is.client_is) in
    record {
      text = ap (λ (a : List ℕ). a ++ (more w k).text) is.text ∙ append_assoc written t.text (more w k).text ∙ ap (λ (u : ClientEffect). written ++ u.text) (sym same) ∙ h.text;
      client = ap (λ (u : ClientEffect). u.client) (sym same) ∙ h.client;
      server = ap (λ (u : ClientEffect). u.server) (sym same) ∙ h.server;
      full = ap (λ (u : ClientEffect). u.full) (sym same) ∙ h.full;
    }

-- a Take at which the history is full, and then nothing
pub completes_full : (written after start : List ℕ) (all t : ClientEffect) (w : Serving) (k : Client) (more : Serving → Client → ClientEffect) →
    IsClientEffect t written after k w true → Completes written (goes_on t t.full more) start all → IsClientEffect all start after k w true
completes_full written after start all t w k more is h =
    let same : goes_on t t.full more ≡ t = ap (λ (b : Bool). goes_on t b more) (sym is.full_is) in
    record {
      text = is.text ∙ ap (λ (u : ClientEffect). written ++ u.text) (sym same) ∙ h.text;
      client_is = is.client_is ∙ ap (λ (u : ClientEffect). u.client) (sym same) ∙ h.client;
      server_is = is.server_is ∙ ap (λ (u : ClientEffect). u.server) (sym same) ∙ h.server;
      full_is = is.full_is ∙ ap (λ (u : ClientEffect). u.full) (sym same) ∙ h.full;
    }

-- no Take is to be made, however many may be
pub takes_none : (most : ℕ) (w : Serving) (k : Client) → pending_effect w k ≡ None → takes most w k ≡ quiet k w
unfolding takes
takes_none zero w k none = refl
takes_none (suc most) w k none = ap (λ (o : Option ClientEffect). if_any o (λ w' k'. takes most w' k') w k) none

-- one Take, and then the others
pub takes_some : (most : ℕ) (w : Serving) (k : Client) (t : ClientEffect) → pending_effect w k ≡ Some t →
    takes (suc most) w k ≡ goes_on t t.full (λ w' k'. takes most w' k')
unfolding takes
takes_some most w k t some = ap (λ (o : Option ClientEffect). if_any o (λ w' k'. takes most w' k') w k) some

-- a loop of Takes: none was to be made
pub taking_none : (n : ℕ) (w after : Serving) (k k' : Client) (written now start : List ℕ) (all : ClientEffect) (made : Option ClientEffect) →
    made ≡ pending_effect w k → IsClientEffectIf made written now k k' w after None →
    Completes written (takes n w k) start all → IsClientEffect all start now k' after false
taking_none n w after k k' written now start all (Some t) e did h = absurd did
taking_none n w after k k' written now start all None e did h =
    let done : IsClientEffect all start written k w false =
    completes_done written start all w k (let P : ClientEffect → Type 0 = λ t. Completes written t start all in subst P (takes_none n w k (sym e)) h) in
    record { text = did.0 ∙ done.text; client_is = did.1 ∙ done.client_is; server_is = did.2 ∙ done.server_is; full_is = done.full_is }

-- one was made, and others may follow
pub taking_some : (n m : ℕ) (w after : Serving) (k k' : Client) (written now start : List ℕ) (all : ClientEffect) (made : Option ClientEffect) →
    made ≡ pending_effect w k → n ≡ suc m → IsClientEffectIf made written now k k' w after (Some false) →
    Completes written (takes n w k) start all → Completes now (takes m after k') start all
taking_some n m w after k k' written now start all None e count did h = absurd did
taking_some n m w after k k' written now start all (Some t) e count did h =
    let P : ClientEffect → Type 0 = λ u. Completes written u start all in
    completes_more written now start all t after k' (λ v x. takes m v x) did
    (subst P (ap (λ (i : ℕ). takes i w k) count ∙ takes_some m w k t (sym e)) h)

-- one was made, and the history is full
pub taking_full : (n m : ℕ) (w after : Serving) (k k' : Client) (written now start : List ℕ) (all : ClientEffect) (made : Option ClientEffect) →
    made ≡ pending_effect w k → n ≡ suc m → IsClientEffectIf made written now k k' w after (Some true) →
    Completes written (takes n w k) start all → IsClientEffect all start now k' after true
taking_full n m w after k k' written now start all None e count did h = absurd did
taking_full n m w after k k' written now start all (Some t) e count did h =
    let P : ClientEffect → Type 0 = λ u. Completes written u start all in
    completes_full written now start all t after k' (λ v x. takes m v x) did
    (subst P (ap (λ (i : ℕ). takes i w k) count ∙ takes_some m w k t (sym e)) h)

-- no more may be made
pub taking_zero : (n : ℕ) (w : Serving) (k : Client) (written start : List ℕ) (all : ClientEffect) → n ≡ 0 →
    Completes written (takes n w k) start all → IsClientEffect all start written k w false
unfolding takes
taking_zero n w k written start all e h =
    let P : ℕ → Type 0 = λ i. Completes written (takes i w k) start all in
    completes_done written start all w k (subst P e h)

-- the same for an equal answer
pub IsClientEffectIf-same : (made : Option ClientEffect) (written now : List ℕ) (k k' : Client) (w after : Serving) (o o' : Option Bool) → o ≡ o' →
    IsClientEffectIf made written now k k' w after o → IsClientEffectIf made written now k k' w after o'
IsClientEffectIf-same made written now k k' w after o o' e did = let P : Option Bool → Type 0 = λ x. IsClientEffectIf made written now k k' w after x in subst P e did

-- the same effect for an equal answer
pub IsClientEffect-same : (t : ClientEffect) (before after : List ℕ) (k : Client) (w : Serving) (b b' : Bool) → b ≡ b' → IsClientEffect t before after k w b → IsClientEffect t before after k w b'
IsClientEffect-same t before after k w b b' e is = let P : Bool → Type 0 = λ x. IsClientEffect t before after k w x in subst P e is
