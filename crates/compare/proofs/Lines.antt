-- What is told of users: their lines, and what becomes of them.
use Rattle.std.proofs.Common.{◌≡◌, ◌∙◌, ◌<◌, ◌++◌, ℕ, zero, suc, Bool, true, false, List, [], ◌∷◌, length, map, Option, Some, None, ap, refl, sym, subst, arith, append_assoc, append-nil}
use Rattle.std.specs.Prelude.{All, is_some}
use Rattle.std.specs.List.{flat_map, list_any, slice_index_or}
use Rattle.std.specs.List.Sorted.{IsPermutation}
use Rattle.std.proofs.lemmas.Bool.{and_parts, or_parts}
use Rattle.std.proofs.lemmas.List.Elements.{All-head}
use Rattle.std.proofs.lemmas.List.Folds.{list_any-append}
use Rattle.std.proofs.lemmas.List.Concat.{flat_map-append}
use Rattle.std.proofs.lemmas.List.Sorted.{Contains-permutation, IsPermutation-append, IsPermutation-map, IsPermutation-trans}
use Rattle.subjects.specs.Subject.{Token, tokens_of}
use Rattle.permissions.specs.Lists.{Lists, Queue}
use Rattle.permissions.specs.declared.verdict.Verdict.{Verdict}
use Rattle.policy_doc.specs.declared.document.PolicyDoc.{PolicyDoc}
use Rattle.policy_ready.specs.Users.{user_named, users_of}
use Rattle.policy_ready.specs.declared.ready.User.{User}
use Rattle.message_changes.proofs.Members.{both}
use Rattle.message_changes.specs.Exact.{AreJudgedAlike}
use Rattle.message_changes.specs.Judging.{changes_by, is_allowed_if, is_refused_if, verdict_if, IsChange}
use Rattle.message_changes.specs.declared.changes.MessageChange.{MessageChange}
use Rattle.message_changes.specs.declared.kind.MessageKind.{MessageKind}
use Rattle.compare.proofs.Moved.{flat_moved}
use Rattle.compare.specs.Users.{all_new, all_old, is_about, line_by, line_of, told_if, told_of, AreAsked, AreBetween, AreLines, AreLinesIf, AreLinesOfAll, AreListsTold, AreUsersTold, IsLine, Told}
use Rattle.compare.specs.declared.change.ListChange.{ListChange}
use Rattle.compare.specs.declared.change.UserChange.{UserChange}

-- ---- what is told to differ has both verdicts

allowed_some : (o : Option Verdict) → is_allowed_if o ≡ true → is_some o ≡ true
allowed_some None e = absurd (both false e refl)
allowed_some (Some v) e = refl

refused_some : (o : Option Verdict) → is_refused_if o ≡ true → is_some o ≡ true
refused_some None e = absurd (both false e refl)
refused_some (Some v) e = refl

asked_by : (is_gain : Bool) (kind : MessageKind) (was is : Lists) (u : List Token) (q : Queue) → changes_by is_gain kind was is u q ≡ true →
    (is_some (verdict_if kind was u q) ≡ true) × (is_some (verdict_if kind is u q) ≡ true)
asked_by true kind was is u q e =
    let parts = and_parts (is_allowed_if (verdict_if kind is u q)) (is_refused_if (verdict_if kind was u q)) e in
    (refused_some (verdict_if kind was u q) parts.1, allowed_some (verdict_if kind is u q) parts.0)
asked_by false kind was is u q e =
    let parts = and_parts (is_allowed_if (verdict_if kind was u q)) (is_refused_if (verdict_if kind is u q)) e in
    (allowed_some (verdict_if kind was u q) parts.0, refused_some (verdict_if kind is u q) parts.1)

pub asked : (was is : Lists) (c : MessageChange) → IsChange was is c → AreAsked was is c
asked was is c e =
    let two = asked_by c.is_gain c.kind was is (tokens_of c.asked.subject.items) c.asked.queue e in
    record { old = two.0; new = two.1 }

pub between_same : (was is old new : Lists) (found : List MessageChange) → old ≡ was → new ≡ is → AreBetween was is found → AreBetween old new found
between_same was is old new found e f between = subst (λ (l : Lists). AreBetween l new found) (sym e) (subst (λ (l : Lists). AreBetween was l found) (sym f) between)

-- ---- lines user by user

pub lines_more : (old : PolicyDoc) (us : List User) (u : User) (lines own : List ListChange) → AreLinesOfAll old us lines → AreLinesIf (user_named old u.user) u own → AreLinesOfAll old (us ++ u ∷ []) (lines ++ own)
lines_more old [] u lines own none is = (own, [], ap (λ (l : List ListChange). l ++ own) none ∙ sym (append-nil own), is, refl)
lines_more old (v ∷ us) u lines own more is = (
  more.0,
  more.1 ++ own,
  ap (λ (l : List ListChange). l ++ own) more.2 ∙ append_assoc more.0 more.1 own,
  more.3,
  lines_more old us u more.1 own more.4 is,
)

-- without lines nothing was found
none_found : (lines : List ListChange) (found : List MessageChange) → map line_of lines ≡ map line_by found → lines ≡ [] → found ≡ []
none_found lines [] same none = refl
none_found lines (c ∷ found) same none =
    let bad : [] ≡ line_by c ∷ map line_by found = sym (ap (map line_of) none) ∙ same in
    cc

none_told : (is : User) (was : User) (own : List ListChange) → All (IsLine was is) own → list_any (is_about is) own ≡ false → own ≡ []
none_told is was [] each none = refl
none_told is was (l ∷ own) each none =
    let about : is_about is l ≡ true = (All-head (IsLine was is) l own each).about in
    absurd (both (is_about is l) about (or_parts (is_about is l) (list_any (is_about is) own) none).0)

lines_alike : (was is : User) (own : List ListChange) → AreLines was is own → list_any (is_about is) own ≡ false → AreJudgedAlike was.rules is.rules
lines_alike was is own are none = are.between.alike (none_found own are.found are.each (none_told is was own are.verdicts none))

-- a user about which no line is has its lists judge all alike
pub alike : (old : PolicyDoc) (us : List User) (lines : List ListChange) → AreLinesOfAll old us lines → (was is : User) → (k : ℕ) → k < length us → slice_index_or us k is ≡ is → user_named old is.user ≡ Some was →
    list_any (is_about is) lines ≡ false → AreJudgedAlike was.rules is.rules
alike old [] lines are was is k below at named none = absurd (omega (arith, below))
alike old (u ∷ us) lines are was is zero below at named none =
    let parts = or_parts (list_any (is_about is) are.0) (list_any (is_about is) are.1) (sym (list_any-append (is_about is) are.0 are.1) ∙ sym (ap (list_any (is_about is)) are.2) ∙ none) in
    let own : AreLinesIf (user_named old is.user) is are.0 = subst (λ (x : User). AreLinesIf (user_named old x.user) x are.0) at are.3 in
    lines_alike was is are.0 (subst (λ (o : Option User). AreLinesIf o is are.0) named own) parts.0
alike old (u ∷ us) lines are was is (suc k) below at named none =
    let parts = or_parts (list_any (is_about is) are.0) (list_any (is_about is) are.1) (sym (list_any-append (is_about is) are.0 are.1) ∙ sym (ap (list_any (is_about is)) are.2) ∙ none) in
    alike old us are.1 are.4 was is k (omega (arith, below)) at named parts.1

pub lists_told : (old new : PolicyDoc) (us : List User) (lines : List ListChange) → IsPermutation (users_of new) us → AreLinesOfAll old us lines → AreListsTold old new lines
lists_told old new us lines all each = record {
  users = us;
  all = all;
  each = each;
  alike = λ was is among named none.
      let here = Contains-permutation (users_of new) us is all among in
      alike old us lines each was is here.0 here.1 here.2 named none;
}

-- ---- what becomes of users

-- what is told where something is so, and where it isn't
pub if_so : (ts : List Told) (b : Bool) (t : Told) → b ≡ true → ts ++ t ∷ [] ≡ ts ++ told_if b t
if_so ts b t e = ap (λ c. ts ++ told_if c t) (sym e)

pub if_not : (ts : List Told) (b : Bool) (t : Told) → b ≡ false → ts ≡ ts ++ told_if b t
if_not ts b t e = sym (append-nil ts) ∙ ap (λ c. ts ++ told_if c t) (sym e)

-- one more user is looked at
pub all_more : (f : User → List Told) (before now after : List Told) (us : List User) (u : User) →
    now ≡ before ++ flat_map f us → after ≡ now ++ f u → after ≡ before ++ flat_map f (us ++ u ∷ [])
all_more f before now after us u so_far one =
    let last : flat_map f us ++ f u ≡ flat_map f (us ++ u ∷ []) =
    ap (λ (l : List Told). flat_map f us ++ l) (sym (append-nil (f u))) ∙ sym (flat_map-append f us (u ∷ [])) in
    one ∙ ap (λ (l : List Told). l ++ f u) so_far ∙ append_assoc before (flat_map f us) (f u)
    ∙ ap (λ (l : List Told). before ++ l) last

-- in another order as much is told
pub users_told : (old new : PolicyDoc) (olds news : List User) (told sorted : List UserChange) →
    IsPermutation (users_of old) olds → IsPermutation (users_of new) news →
    map told_of told ≡ all_old new olds ++ all_new old news → IsPermutation told sorted → AreUsersTold old new sorted
users_told old new olds news told sorted of_old of_new all moved =
    let before : List Told = all_old new (users_of old) ++ all_new old (users_of new) in
    let gone = flat_moved _ (users_of old) olds of_old in
    let come = flat_moved _ (users_of new) news of_new in
    let parts : IsPermutation before (all_old new olds ++ all_new old news) = IsPermutation-append _ _ _ _ gone come in
    IsPermutation-trans _ (map told_of told) _ (subst (IsPermutation before) (sym all) parts)
    (IsPermutation-map told_of told sorted moved)
