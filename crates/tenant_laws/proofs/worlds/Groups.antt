-- Whom queue groups leave of tenants' subscriptions goes by their order, and not by their numbers.
use Rattle.std.proofs.Common.{◌≡◌, ◌∙◌, ℕ, List, [], ◌∷◌, length, get_or, Option, Some, None, ap, sym, refl, zero, suc, slice_get}
use Rattle.std.specs.Prelude.{All, IfSome}
use Rattle.std.specs.Option.{option_map}
use Rattle.std.proofs.lemmas.List.Elements.{All-filter, All-head, All-tail}
use Rattle.subjects.specs.Subject.{Token, text_of}
use Rattle.world_subscriptions.specs.queue_choice.Choices.{chosen, chosen_number}
use Rattle.world_subscriptions.specs.Subscription.{Subscription}
use Rattle.world_subscriptions.specs.groups.Served.{is_member, is_served, is_served_by, is_the, members, served}
use Rattle.world_subscriptions.proofs.groups.Chosen.{chosen-map}
use Rattle.tenant_laws.specs.worlds.Tenants.{Tenants, unnumbered}
use Rattle.tenant_laws.specs.worlds.Alike.{ArePaired, HaveOneId, Pair, first_of, second_of}
use Rattle.tenant_laws.proofs.worlds.Pairs.{pairs_kept, test_kept}

-- what holds of all holds at a place
at_place : {X : Type 0} (P : X → Type 0) (xs : List X) (k : ℕ) → All P xs → IfSome (slice_get xs k) P
at_place P [] k all = tt
at_place P (x ∷ xs) zero all = All-head P x xs all
at_place P (x ∷ xs) (suc k) all = at_place P xs k (All-tail P x xs all)

module _ (t : Tenants) (m n word : ℕ) where
  -- a pair is of one queue
  queue_of : (s u : Subscription) → unnumbered s ≡ unnumbered u → s.queue ≡ u.queue
  queue_of s u same = ap (λ (x : Subscription). x.queue) same

  chosen_in : (name : List ℕ) (xs ys : List Subscription) (P : ArePaired t m n xs ys) (a : Pair) → All (λ c. HaveOneId c a) P.pairs →
      is_the (chosen word (members name xs)) a.0 ≡ is_the (chosen word (members name ys)) a.1
  chosen_in name xs ys P a ids =
      let Q : ArePaired t m n (members name xs) (members name ys) = test_kept t m n (is_member name) (λ s. refl) xs ys P in
      let all : All (λ c. HaveOneId c a) Q.pairs = All-filter (λ (c : Pair). is_member name c.0) (λ c. HaveOneId c a) P.pairs ids in
      ap (λ o. is_the o a.0) (ap (chosen word) (sym Q.first) ∙ sym (chosen-map first_of word Q.pairs))
      ∙ by (chosen word Q.pairs) (at_place (λ c. HaveOneId c a) Q.pairs (chosen_number word (length Q.pairs)) all)
      ∙ ap (λ o. is_the o a.1) (chosen-map second_of word Q.pairs ∙ ap (chosen word) Q.second)
    where
      by : (o : Option Pair) → IfSome o (λ c. HaveOneId c a) → is_the (option_map first_of o) a.0 ≡ is_the (option_map second_of o) a.1
      by None one = refl
      by (Some c) one = one

  served_in : (xs ys : List Subscription) (P : ArePaired t m n xs ys) → All (λ (a : Pair). is_served word xs a.0 ≡ is_served word ys a.1) P.pairs
  served_in xs ys P k d h =
      let a : Pair = get_or P.pairs k d in
      by a a.0.queue (λ j e below. P.ids j e below k d h)
      ∙ ap (is_served_by word ys a.1) (queue_of a.0 a.1 (P.same k d h))
    where
      by : (a : Pair) (queue : Option (List Token)) → All (λ c. HaveOneId c a) P.pairs → is_served_by word xs a.0 queue ≡ is_served_by word ys a.1 queue
      by a None ids = refl
      by a (Some q) ids = chosen_in (text_of q) xs ys P a ids

  -- the message is for paired subscriptions, if those that may be sent it are paired
  pub pairs_served : (xs ys : List Subscription) → ArePaired t m n xs ys → ArePaired t m n (served word xs) (served word ys)
  pairs_served xs ys P = pairs_kept t m n (is_served word xs) (is_served word ys) xs ys P (served_in xs ys P)
