-- How deliveries are written, one after the other.
use Rattle.std.proofs.Common.{◌≡◌, ◌∙◌, ◌∷◌, ◌++◌, ◌+◌, [], ℕ, List, Bool, false, Result, Ok, Err, drop, sym, ap, subst}
use Rattle.std.specs.Prelude.{OnOk, is_err}
use Rattle.std.proofs.lemmas.List.{append_assoc, flat_map_more}
use Rattle.events.specs.declared.answer.Delivery.{Delivery}
use Rattle.session_plan.specs.pending.Texts.{IsWritten, delivery_text}
use Rattle.session_plan.proofs.pending.Lists.{drop_one_more}

-- what holds on success, where it is one
pub on_ok : {A E P : Type 0} (r : Result A E) → is_err r ≡ false → OnOk r P → P
on_ok (Ok x) is p = p
on_ok (Err e) is p = absurd (cc)

-- what is left behind the next one
pub next_left : {X : Type 0} (all : List X) (n : ℕ) (x : X) (left : List X) → drop n all ≡ x ∷ left → left ≡ drop (n + 1) all
next_left all n x left e = sym (drop_one_more all n ∙ ap (drop 1) e)

-- one more is written
pub written_next : (headers : Bool) (before : List ℕ) (all : List Delivery) (n : ℕ) (mid : List ℕ) (d : Delivery) (left : List Delivery) (after : List ℕ) →
    IsWritten headers before all mid (drop n all) → drop n all ≡ d ∷ left → after ≡ mid ++ delivery_text headers d →
    IsWritten headers before all after (drop (n + 1) all)
written_next headers before all n mid d left after i next after_is = subst (IsWritten headers before all after) (next_left all n d left next) (record {
  written = i.written ++ d ∷ [];
  is_front = i.is_front ∙ ap (λ (l : List Delivery). i.written ++ l) next ∙ sym (append_assoc i.written (d ∷ []) left);
  text = after_is ∙ ap (λ (t : List ℕ). t ++ delivery_text headers d) i.text ∙ flat_map_more (delivery_text headers) before i.written d;
})
