-- How the drains of a line go on, connection by connection.
use Rattle.std.proofs.Common.{◌≡◌, ◌∙◌, ◌+◌, ◌<◌, ◌++◌, ◌∷◌, [], ℕ, Bool, true, false, List, length, take, drop, get_or, set, cond, suc, ◌==◌, ◌≤◌, arith, ap, sym, refl, subst}
use Rattle.std.proofs.lemmas.List.{append_assoc, append-nil, take-append-drop, take-set, drop-set, drop-set-lt, take_more, take_more_set}
use Rattle.std.proofs.Math.Seq.{drop-cons}
use Rattle.std.proofs.Math.ListN.{drop_of_length-le}
use Rattle.script.specs.Server.{Serving}
use Rattle.script.specs.declared.client.Client.{Client}
use Rattle.lines.specs.declared.script_text.lines.ClientLine.{ClientLine}
use Rattle.script.specs.Play.{ClientEffect, Effect, effect, reached, beside, done_to, client_line_effect, drain_effect, drained, done_in, IsClientEffect, IsEffect}

-- what is left to come, behind what is printed and the connections that are done, is what all comes to
pub record Leads (written : List ℕ) (front : List Client) (rest : Effect) (start : List ℕ) (all : Effect) : Type 0 where
  pub text : written ++ rest.text ≡ start ++ all.text
  pub clients : front ++ rest.clients ≡ all.clients
  pub server : rest.server ≡ all.server
  pub stops : rest.stops ≡ all.stops

-- nothing is left to come
leads_done : (written start : List ℕ) (front : List Client) (w : Serving) (all : Effect) →
    Leads written front (effect [] [] w false) start all → IsEffect all start written front w false
leads_done written start front w all h = record {
  text = sym (append-nil written) ∙ h.text;
  clients_are = sym (append-nil front) ∙ h.clients;
  server_is = h.server;
  stops_is = h.stops;
}

-- a connection goes on, and then the rest
leads_more : (written now start : List ℕ) (front : List Client) (k : Client) (t : ClientEffect) (w : Serving) (more : Serving → Effect) (ks : List Client) (all : Effect) →
    IsClientEffect t written now k w false → Leads written front (reached t t.full more ks) start all →
    Leads now (front ++ k ∷ []) (more w) start all
leads_more written now start front k t w more ks all is h =
    let rest : Client → Serving → Effect = λ x v. effect (t.text ++ (more v).text) (x ∷ (more v).clients) (more v).server (more v).stops in
    let same : reached t t.full more ks ≡ rest k w =
    ap (λ (b : Bool). reached t b more ks) (sym is.full_is) ∙ ap (λ (v : Serving). rest t.client v) (sym is.server_is) ∙ ap (λ (x : Client). rest x w) (sym is.client_is) in
    record {
      text = ap (λ (a : List ℕ). a ++ (more w).text) is.text ∙ append_assoc written t.text (more w).text ∙ ap (λ (a : Effect). written ++ a.text) (sym same) ∙ h.text;
      clients = append_assoc front (k ∷ []) (more w).clients ∙ ap (λ (a : Effect). front ++ a.clients) (sym same) ∙ h.clients;
      server = ap (λ (a : Effect). a.server) (sym same) ∙ h.server;
      stops = ap (λ (a : Effect). a.stops) (sym same) ∙ h.stops;
    }

-- the history is full, and the others are not reached
leads_full : (written now start : List ℕ) (front : List Client) (k : Client) (t : ClientEffect) (w : Serving) (more : Serving → Effect) (ks : List Client) (all : Effect) →
    IsClientEffect t written now k w true → Leads written front (reached t t.full more ks) start all →
    IsEffect all start now (front ++ k ∷ ks) w true
leads_full written now start front k t w more ks all is h =
    let same : reached t t.full more ks ≡ effect t.text (k ∷ ks) t.server true =
    ap (λ (b : Bool). reached t b more ks) (sym is.full_is) ∙ ap (λ (x : Client). effect t.text (x ∷ ks) t.server true) (sym is.client_is) in
    record {
      text = is.text ∙ ap (λ (a : Effect). written ++ a.text) (sym same) ∙ h.text;
      clients_are = ap (λ (a : Effect). front ++ a.clients) (sym same) ∙ h.clients;
      server_is = is.server_is ∙ ap (λ (a : Effect). a.server) (sym same) ∙ h.server;
      stops_is = ap (λ (a : Effect). a.stops) (sym same) ∙ h.stops;
    }

take_all : (ks : List Client) (i : ℕ) → length ks ≤ i → take i ks ≡ ks
take_all ks i h =
    sym (append-nil (take i ks)) ∙ ap (λ (l : List Client). take i ks ++ l) (sym (drop_of_length-le ks h)) ∙ take-append-drop i ks

-- the elements about an index
cut_at : (ks : List Client) (i : ℕ) (z : Client) → i < length ks → drop i ks ≡ get_or ks i z ∷ drop (i + 1) ks
cut_at ks i z h = let e : i + 1 ≡ suc i = omega arith in drop-cons ks i z h ∙ ap (λ (n : ℕ). get_or ks i z ∷ drop n ks) (sym e)

written_at : (ks : List Client) (i : ℕ) (k : Client) → i < length ks → set ks i k ≡ take i ks ++ k ∷ drop (i + 1) ks
written_at ks i k h =
    sym (take-append-drop i (set ks i k))
    ∙ ap (λ (l : List Client). l ++ drop i (set ks i k)) (take-set ks i k)
    ∙ ap (λ (l : List Client). take i ks ++ l) (drop-set ks i k h)

-- the drains from an index on, by the connection there
drained_at : (ks : List Client) (i : ℕ) (z : Client) (w : Serving) → i < length ks →
    drained (drop i ks) w ≡ reached (drain_effect w (get_or ks i z)) (drain_effect w (get_or ks i z)).full (λ v. drained (drop (i + 1) ks) v) (drop (i + 1) ks)
unfolding drained
drained_at ks i z w h = ap (λ (l : List Client). drained l w) (cut_at ks i z h)

-- a connection is drained and goes on
pub draining_more : (ks : List Client) (i : ℕ) (z k : Client) (w w' : Serving) (written now start : List ℕ) (all : Effect) → i < length ks →
    IsClientEffect (drain_effect w (get_or ks i z)) written now k w' false →
    Leads written (take i ks) (drained (drop i ks) w) start all →
    Leads now (take (i + 1) (set ks i k)) (drained (drop (i + 1) (set ks i k)) w') start all
draining_more ks i z k w w' written now start all h is leads =
    let P : Effect → Type 0 = λ a. Leads written (take i ks) a start all in
    let next = leads_more written now start (take i ks) k (drain_effect w (get_or ks i z)) w' (λ v. drained (drop (i + 1) ks) v) (drop (i + 1) ks) all is (subst P (drained_at ks i z w h) leads) in
    let Q : List Client → Type 0 = λ l. Leads now l (drained (drop (i + 1) ks) w') start all in
    let R : List Client → Type 0 = λ l. Leads now (take (i + 1) (set ks i k)) (drained l w') start all in
    subst R (sym (drop-set-lt (i + 1) ks i k (omega arith))) (subst Q (sym (take_more_set ks i k h)) next)

-- a connection at which the history is full
pub draining_full : (ks : List Client) (i : ℕ) (z k : Client) (w w' : Serving) (written now start : List ℕ) (all : Effect) → i < length ks →
    IsClientEffect (drain_effect w (get_or ks i z)) written now k w' true →
    Leads written (take i ks) (drained (drop i ks) w) start all →
    IsEffect all start now (set ks i k) w' true
draining_full ks i z k w w' written now start all h is leads =
    let P : Effect → Type 0 = λ a. Leads written (take i ks) a start all in
    let Q : List Client → Type 0 = λ l. IsEffect all start now l w' true in
    subst Q (sym (written_at ks i k h))
    (leads_full written now start (take i ks) k (drain_effect w (get_or ks i z)) w' (λ v. drained (drop (i + 1) ks) v) (drop (i + 1) ks) all is (subst P (drained_at ks i z w h) leads))

-- all connections are drained
pub draining_done : (ks : List Client) (i : ℕ) (w : Serving) (written start : List ℕ) (all : Effect) → length ks ≤ i →
    Leads written (take i ks) (drained (drop i ks) w) start all → IsEffect all start written ks w false
unfolding drained
draining_done ks i w written start all h leads =
    let P : List Client → Type 0 = λ l. Leads written (take i ks) (drained l w) start all in
    let Q : List Client → Type 0 = λ l. IsEffect all start written l w false in
    subst Q (take_all ks i h) (leads_done written start (take i ks) w all (subst P (drop_of_length-le ks h) leads))

-- what is done from an index on, by the connection there
done_at : (conn : ℕ) (said : ClientLine) (w : Serving) (ks : List Client) (i : ℕ) (z : Client) → i < length ks →
    done_in conn said w (drop i ks) ≡ cond ((get_or ks i z).conn.conn == conn) (done_to w (get_or ks i z) said (drop (i + 1) ks)) (beside (get_or ks i z ∷ []) (done_in conn said w (drop (i + 1) ks)))
unfolding done_in
done_at conn said w ks i z h = ap (λ (l : List Client). done_in conn said w l) (cut_at ks i z h)

-- no connection before the index has the number
pub record IsPast (conn : ℕ) (said : ClientLine) (w : Serving) (ks : List Client) (i : ℕ) : Type 0 where
  pub left : done_in conn said w ks ≡ beside (take i ks) (done_in conn said w (drop i ks))

-- nor the one at it
pub past_more : (conn : ℕ) (said : ClientLine) (w : Serving) (ks : List Client) (i : ℕ) (z : Client) → i < length ks →
    (get_or ks i z).conn.conn == conn ≡ false → IsPast conn said w ks i → IsPast conn said w ks (i + 1)
past_more conn said w ks i z h other past = record {
  left =
      past.left
      ∙ ap (beside (take i ks)) (done_at conn said w ks i z h
      ∙ ap (λ (b : Bool). cond b (done_to w (get_or ks i z) said (drop (i + 1) ks)) (beside (get_or ks i z ∷ []) (done_in conn said w (drop (i + 1) ks)))) other)
      ∙ ap (λ (l : List Client). let a = done_in conn said w (drop (i + 1) ks) in effect a.text l a.server a.stops)
      (sym (append_assoc (take i ks) (get_or ks i z ∷ []) (done_in conn said w (drop (i + 1) ks)).clients)
      ∙ ap (λ (l : List Client). l ++ (done_in conn said w (drop (i + 1) ks)).clients) (sym (take_more ks i z h)));
}

-- the one at it has the number
past_here : (conn : ℕ) (said : ClientLine) (w : Serving) (ks : List Client) (i : ℕ) (z : Client) → i < length ks →
    (get_or ks i z).conn.conn == conn ≡ true → IsPast conn said w ks i →
    done_in conn said w ks ≡ beside (take i ks) (done_to w (get_or ks i z) said (drop (i + 1) ks))
past_here conn said w ks i z h same past =
    past.left
    ∙ ap (beside (take i ks)) (done_at conn said w ks i z h
    ∙ ap (λ (b : Bool). cond b (done_to w (get_or ks i z) said (drop (i + 1) ks)) (beside (get_or ks i z ∷ []) (done_in conn said w (drop (i + 1) ks)))) same)

-- no connection has it
pub past_all : (conn : ℕ) (said : ClientLine) (w : Serving) (ks : List Client) (i : ℕ) (start : List ℕ) → length ks ≤ i →
    IsPast conn said w ks i → IsEffect (done_in conn said w ks) start start ks w false
unfolding done_in
past_all conn said w ks i start h past =
    let none : done_in conn said w ks ≡ beside (take i ks) (effect [] [] w false) = past.left ∙ ap (λ (l : List Client). beside (take i ks) (done_in conn said w l)) (drop_of_length-le ks h) in
    record {
      text = sym (append-nil start) ∙ ap (λ (a : Effect). start ++ a.text) (sym none);
      clients_are = sym (take_all ks i h) ∙ sym (append-nil (take i ks)) ∙ ap (λ (a : Effect). a.clients) (sym none);
      server_is = ap (λ (a : Effect). a.server) (sym none);
      stops_is = ap (λ (a : Effect). a.stops) (sym none);
    }

-- nothing becomes of the others
reached_alone : (t : ClientEffect) (full : Bool) (ks : List Client) → reached t full (λ v. effect [] ks v false) ks ≡ effect t.text (t.client ∷ ks) t.server full
reached_alone t true ks = refl
reached_alone t false ks = ap (λ (l : List ℕ). effect l (t.client ∷ ks) t.server false) (append-nil t.text)

-- what was done to the connection of the number is all that was done
pub done_here : (conn : ℕ) (said : ClientLine) (w w' : Serving) (ks : List Client) (i : ℕ) (z k : Client) (full : Bool) (start now : List ℕ) → i < length ks →
    (get_or ks i z).conn.conn == conn ≡ true → IsPast conn said w ks i → IsClientEffect (client_line_effect w (get_or ks i z) said) start now k w' full →
    IsEffect (done_in conn said w ks) start now (set ks i k) w' full
done_here conn said w w' ks i z k full start now h same past is =
    let t = client_line_effect w (get_or ks i z) said in
    let rest = drop (i + 1) ks in
    let gone : done_in conn said w ks ≡ beside (take i ks) (effect t.text (k ∷ rest) t.server full) =
    past_here conn said w ks i z h same past
    ∙ ap (beside (take i ks)) (reached_alone t t.full rest ∙ ap (λ (b : Bool). effect t.text (t.client ∷ rest) t.server b) (sym is.full_is) ∙ ap (λ (x : Client). effect t.text (x ∷ rest) t.server full) (sym is.client_is)) in
    record {
      text = is.text ∙ ap (λ (a : Effect). start ++ a.text) (sym gone);
      clients_are = written_at ks i k h ∙ ap (λ (a : Effect). a.clients) (sym gone);
      server_is = is.server_is ∙ ap (λ (a : Effect). a.server) (sym gone);
      stops_is = ap (λ (a : Effect). a.stops) (sym gone);
    }

-- nothing has changed so far
pub done-same : (conn : ℕ) (said : ClientLine) (w w0 after : Serving) (ks ks0 left : List Client) (out out0 now : List ℕ) (stops : Bool) →
    w ≡ w0 → ks ≡ ks0 → out ≡ out0 → IsEffect (done_in conn said w ks) out now left after stops → IsEffect (done_in conn said w0 ks0) out0 now left after stops
done-same conn said w w0 after ks ks0 left out out0 now stops ew ek eo h =
    let P : Serving → Type 0 = λ v. IsEffect (done_in conn said v ks) out now left after stops in
    let Q : List Client → Type 0 = λ l. IsEffect (done_in conn said w0 l) out now left after stops in
    let R : List ℕ → Type 0 = λ o. IsEffect (done_in conn said w0 ks0) o now left after stops in
    subst R eo (subst Q ek (subst P ew h))

pub past-same : (conn : ℕ) (said : ClientLine) (w : Serving) (ks ks' : List Client) (i : ℕ) → ks ≡ ks' → IsPast conn said w ks i → IsPast conn said w ks' i
past-same conn said w ks ks' i e h = let P : List Client → Type 0 = λ l. IsPast conn said w l i in subst P e h

-- before the first index
pub past_zero : (conn : ℕ) (said : ClientLine) (w : Serving) (ks : List Client) → IsPast conn said w ks 0
past_zero conn said w ks = record { left = refl }
