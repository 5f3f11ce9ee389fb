-- From one place to another by what happens, and what this comes to.
use Rattle.std.proofs.Common.{◌≡◌, ◌∙◌, ◌∷◌, ◌++◌, [], ℕ, List, Bool, ◌||◌, true, false, Option, IsTrue, ap, refl, sym, subst}
use Rattle.std.specs.List.{flat_map, list_any}
use Rattle.std.specs.Option.{option_to_list}
use Rattle.std.proofs.lemmas.List.{append_assoc, append-nil}
use Rattle.std.proofs.lemmas.List.Concat.{flat_map-append}
use Rattle.std.proofs.lemmas.List.Folds.{list_any-append}
use Rattle.wire_read.specs.declared.frame.Frame.{Frame}
use Rattle.hub.specs.History.{State}
use Rattle.events.specs.declared.answer.Delivery.{Delivery}
use Rattle.session_plan.specs.declared.stage.Stage.{Stage}
use Rattle.session_plan.specs.Replies.{told_text}
use Rattle.session_conn.specs.Turns.{Draws}
use Rattle.script.specs.sessions.Happenings.{Happening, framed, sent, took, is_slow, has_missed, Submitted, Came, came, come_of, then_came, comes, may_come, IsInOrder}
use Rattle.script.specs.sessions.Accounts.{IsStepped, IsDrawn}

-- ---- one after another

then_assoc : (a b c : Came) → then_came (then_came a b) c ≡ then_came a (then_came b c)
then_assoc a b c = λ i. record {
  text = append_assoc a.text b.text c.text i;
  stage = c.stage;
  submitted = append_assoc a.submitted b.submitted c.submitted i;
  words = append_assoc a.words b.words c.words i;
}

comes-nil : (conn : ℕ) (s : Stage) → comes conn s [] ≡ came (told_text [] s) [] []
unfolding comes
comes-nil conn s = refl

comes-append : (conn : ℕ) (s : Stage) (hs more : List Happening) → comes conn s (hs ++ more) ≡ then_came (comes conn s hs) (comes conn (comes conn s hs).stage more)
unfolding comes
comes-append conn s [] more = refl
comes-append conn s (h ∷ hs) more =
    ap (then_came (come_of conn s h)) (comes-append conn (come_of conn s h).stage hs more)
    ∙ sym (then_assoc (come_of conn s h) (comes conn (come_of conn s h).stage hs) (comes conn (comes conn (come_of conn s h).stage hs).stage more))

pub comes-one : (conn : ℕ) (s : Stage) (h : Happening) → comes conn s (h ∷ []) ≡ come_of conn s h
unfolding comes
comes-one conn s h =
    let c : Came = come_of conn s h in
    λ i. record { text = append-nil c.text i; stage = c.stage; submitted = append-nil c.submitted i; words = append-nil c.words i }

in_order-nil : (conn : ℕ) (s : Stage) → IsInOrder conn s []
unfolding IsInOrder
in_order-nil conn s = tt

pub in_order-one : (conn : ℕ) (s : Stage) (h : Happening) → IsTrue (may_come s h) → IsInOrder conn s (h ∷ [])
unfolding IsInOrder
in_order-one conn s h may = (may, tt)

in_order-append : (conn : ℕ) (s : Stage) (hs more : List Happening) → IsInOrder conn s hs → IsInOrder conn (comes conn s hs).stage more → IsInOrder conn s (hs ++ more)
unfolding comes IsInOrder
in_order-append conn s [] more h k = k
in_order-append conn s (x ∷ hs) more h k = (h.0, in_order-append conn (come_of conn s x).stage hs more h.1 k)

pub stepped-nil : (s s' : State) → s' ≡ s → IsStepped [] s s'
unfolding IsStepped
stepped-nil s s' h = h

stepped-append : (a b : List Submitted) (s t u : State) → IsStepped a s t → IsStepped b t u → IsStepped (a ++ b) s u
unfolding IsStepped
stepped-append [] b s t u h k = subst (λ (x : State). IsStepped b x u) h k
stepped-append (x ∷ a) b s t u h k = (h.0, h.1, stepped-append a b h.0 t u h.2 k)

pub drawn-nil : {W : Type 0} (draws : Draws W) (w w' : W) → w' ≡ w → IsDrawn draws w [] w'
unfolding IsDrawn
drawn-nil draws w w' h = h

pub drawn-append : {W : Type 0} (draws : Draws W) (a b : List ℕ) (w v u : W) → IsDrawn draws w a v → IsDrawn draws v b u → IsDrawn draws w (a ++ b) u
unfolding IsDrawn
drawn-append {W} draws [] b w v u h k = subst (λ (x : W). IsDrawn draws x b u) h k
drawn-append draws (x ∷ a) b w v u h k = (h.0, h.1, drawn-append draws a b h.0 v u h.2 k)

-- ---- places

-- where a connection and the hub are: what is left are the frames that had no turn, and what is spare is the word that
-- the first of them has drawn
pub record Place : Type 0 where
  pub stage : Stage
  pub left : List Frame
  pub spare : Option ℕ
  pub owed : List Delivery
  pub missed : Bool
  pub hub : State

-- from place to place by what happens, with this text, while these frames arrived and these words were drawn
pub record Leads (conn : ℕ) (a : Place) (hs : List Happening) (text : List ℕ) (arrived : List Frame) (drawn : List ℕ) (b : Place) : Type 0 where
  pub came : Came
  pub comes_so : comes conn a.stage hs ≡ came
  pub order : IsInOrder conn a.stage hs
  pub text_so : text ≡ came.text
  pub stage_so : b.stage ≡ came.stage
  pub hub : IsStepped came.submitted a.hub b.hub
  pub words : came.words ++ option_to_list b.spare ≡ option_to_list a.spare ++ drawn
  pub frames : flat_map framed hs ++ b.left ≡ a.left ++ arrived
  pub owed : a.owed ++ flat_map took hs ≡ flat_map sent hs ++ b.owed
  pub missed : (a.missed || list_any has_missed hs) ≡ (list_any is_slow hs || b.missed)

-- ---- one way, and then another

chain : {A : Type 0} (a b c x y x' y' : List A) → a ++ x ≡ x' ++ b → b ++ y ≡ y' ++ c → a ++ (x ++ y) ≡ (x' ++ y') ++ c
chain a b c x y x' y' h k =
    sym (append_assoc a x y) ∙ ap (λ l. l ++ y) h ∙ append_assoc x' b y ∙ ap (λ l. x' ++ l) k ∙ sym (append_assoc x' y' c)

or_chain : (a b c x y x' y' : Bool) → (a || x) ≡ (x' || b) → (b || y) ≡ (y' || c) → (a || (x || y)) ≡ ((x' || y') || c)
or_chain a b c x y x' y' h k = sym (assoc a x y) ∙ ap (λ l. l || y) h ∙ assoc x' b y ∙ ap (λ l. x' || l) k ∙ sym (assoc x' y' c)
  where
    assoc : (p q r : Bool) → ((p || q) || r) ≡ (p || (q || r))
    assoc true q r = refl
    assoc false q r = refl

pub leads_on : {conn : ℕ} {a b c : Place} {hs more : List Happening} {text text' : List ℕ} {arrived arrived' : List Frame} {drawn drawn' : List ℕ} →
    Leads conn a hs text arrived drawn b → Leads conn b more text' arrived' drawn' c →
    Leads conn a (hs ++ more) (text ++ text') (arrived ++ arrived') (drawn ++ drawn') c
leads_on {conn} {a} {b} {c} {hs} {more} {text} {text'} {arrived} {arrived'} {drawn} {drawn'} h k =
    let at : b.stage ≡ (comes conn a.stage hs).stage = h.stage_so ∙ sym (ap (λ (x : Came). x.stage) h.comes_so) in
    let then : comes conn (comes conn a.stage hs).stage more ≡ k.came = subst (λ (s : Stage). comes conn s more ≡ k.came) at k.comes_so in
    record {
      came = then_came h.came k.came;
      comes_so = comes-append conn a.stage hs more ∙ ap (λ (x : Came). then_came x (comes conn (comes conn a.stage hs).stage more)) h.comes_so ∙ ap (then_came h.came) then;
      order = in_order-append conn a.stage hs more h.order (subst (λ (s : Stage). IsInOrder conn s more) at k.order);
      text_so = λ i. h.text_so i ++ k.text_so i;
      stage_so = k.stage_so;
      hub = stepped-append h.came.submitted k.came.submitted a.hub b.hub c.hub h.hub k.hub;
      words = sym (chain (option_to_list a.spare) (option_to_list b.spare) (option_to_list c.spare) drawn drawn' h.came.words k.came.words (sym h.words) (sym k.words));
      frames = ap (λ l. l ++ c.left) (flat_map-append framed hs more)
          ∙ sym (chain a.left b.left c.left arrived arrived' (flat_map framed hs) (flat_map framed more) (sym h.frames) (sym k.frames));
      owed = ap (λ l. a.owed ++ l) (flat_map-append took hs more)
          ∙ chain a.owed b.owed c.owed (flat_map took hs) (flat_map took more) (flat_map sent hs) (flat_map sent more) h.owed k.owed
          ∙ sym (ap (λ l. l ++ c.owed) (flat_map-append sent hs more));
      missed = ap (λ l. a.missed || l) (list_any-append has_missed hs more)
          ∙ or_chain a.missed b.missed c.missed (list_any has_missed hs) (list_any has_missed more) (list_any is_slow hs) (list_any is_slow more) h.missed k.missed
          ∙ sym (ap (λ l. l || c.missed) (list_any-append is_slow hs more));
    }

-- the same places and the same text by other names
pub leads_as : {conn : ℕ} {a a' b b' : Place} {hs : List Happening} {text text' : List ℕ} {arrived : List Frame} {drawn : List ℕ} →
    a' ≡ a → text' ≡ text → b' ≡ b → Leads conn a hs text arrived drawn b → Leads conn a' hs text' arrived drawn b'
leads_as {conn} {a} {a'} {b} {b'} {hs} {text} {text'} {arrived} {drawn} from written to l =
    subst (λ x. Leads conn x hs text' arrived drawn b') (sym from)
    (subst (λ x. Leads conn a hs x arrived drawn b') (sym written) (subst (λ x. Leads conn a hs text arrived drawn x) (sym to) l))

-- ---- nothing happens, or one thing

pub or_false : (b : Bool) → (b || false) ≡ b
or_false true = refl
or_false false = refl

-- nothing happens, but that a word may be drawn
pub stays : {conn : ℕ} (a : Place) {spare : Option ℕ} {hub : State} {drawn : List ℕ} →
    hub ≡ a.hub → option_to_list spare ≡ option_to_list a.spare ++ drawn → Leads conn a [] [] [] drawn (record a { spare = spare; hub = hub })
stays {conn} a {hub} same so = record {
  came = came (told_text [] a.stage) [] [];
  comes_so = comes-nil conn a.stage;
  order = in_order-nil conn a.stage;
  text_so = refl;
  stage_so = refl;
  hub = stepped-nil a.hub hub same;
  words = so;
  frames = sym (append-nil a.left);
  owed = append-nil a.owed;
  missed = or_false a.missed;
}

pub idles : {conn : ℕ} (a : Place) → Leads conn a [] [] [] [] a
idles a = stays a refl (sym (append-nil (option_to_list a.spare)))

-- one thing happens, and no frame has its turn
pub one_happening : {conn : ℕ} (a : Place) (h : Happening) {text : List ℕ} {s : Stage} {submitted : List Submitted} {owed : List Delivery} {missed : Bool} {hub : State} →
    come_of conn a.stage h ≡ came (told_text text s) submitted [] → IsTrue (may_come a.stage h) → framed h ≡ [] → IsStepped submitted a.hub hub →
    a.owed ++ took h ≡ sent h ++ owed → (a.missed || has_missed h) ≡ (is_slow h || missed) →
    Leads conn a (h ∷ []) text [] [] (record a { stage = s; owed = owed; missed = missed; hub = hub })
one_happening {conn} a h {text} {s} {submitted} {owed} {missed} is may unframed stepped waiting told = record {
  came = came (told_text text s) submitted [];
  comes_so = comes-one conn a.stage h ∙ is;
  order = in_order-one conn a.stage h may;
  text_so = refl;
  stage_so = refl;
  hub = stepped;
  words = sym (append-nil (option_to_list a.spare));
  frames = ap (λ l. (l ++ []) ++ a.left) unframed ∙ sym (append-nil a.left);
  owed = ap (λ l. a.owed ++ l) (append-nil (took h)) ∙ waiting ∙ sym (ap (λ l. l ++ owed) (append-nil (sent h)));
  missed = ap (λ b. a.missed || b) (or_false (has_missed h)) ∙ told ∙ sym (ap (λ b. b || missed) (or_false (is_slow h)));
}
