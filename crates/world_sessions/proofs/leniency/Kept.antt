-- Where no item tells of a full outbox, and it doesn't count how much waits, nobody holds the message back.
use Rattle.std.proofs.Common.{◌≡◌, ◌∙◌, ◌++◌, ℕ, false, List, [], ◌∷◌, Option, Some, None, is_some, cond, ap, sym, refl, subst}
use Rattle.std.specs.List.{list_any, cons_option}
use Rattle.std.proofs.lemmas.List.{append-nil}
use Rattle.events.specs.declared.answer.Item.{Item}
use Rattle.events.specs.declared.answer.Item.TheVariants.{Entered, Full, RouteFull, MapTooLong, Unmapped, MappedTooLong}
use Rattle.world_sessions.specs.deliveries.Sessions.{session_of}
use Rattle.world_sessions.specs.declared.deliveries.session.Session.{Session}
use Rattle.world_sessions.specs.leniency.Held.{Terms, to_all, is_full, is_over, held_among}

none_held : (t : Terms) (zs : List Session) (items : List Item) → t.room ≡ None → list_any is_full items ≡ false → held_among t zs items ≡ []
none_held t zs [] free none = refl
none_held t zs (Entered conn sid ∷ items) free none =
    let rest = held_among t zs items in
    let P : Option ℕ → Type 0 = λ room. cons_option (cond (is_over room (session_of zs conn)) (Some conn) None) rest ≡ [] in
    subst P (sym free) (none_held t zs items free none)
none_held t zs (Full conn sid ∷ items) free none = absurd (cc)
none_held t zs (RouteFull row ∷ items) free none = none_held t zs items free none
none_held t zs (MapTooLong row ∷ items) free none = none_held t zs items free none
none_held t zs (Unmapped ∷ items) free none = none_held t zs items free none
none_held t zs (MappedTooLong index ∷ items) free none = none_held t zs items free none

none_of : (room : Option ℕ) → is_some room ≡ false → room ≡ None
none_of None free = refl
none_of (Some most) free = absurd (cc)

-- so who was noted stays
pub same_held : (t : Terms) (zs : List Session) (items : List Item) (held : List ℕ) (room : Option ℕ) → room ≡ t.room → is_some room ≡ false → list_any is_full items ≡ false
    → held ≡ held ++ held_among t zs items
same_held t zs items held room is free none =
    sym (ap (λ more. held ++ more) (none_held t zs items (sym is ∙ none_of room free) none) ∙ append-nil held)

-- a caller that is lenient to all is held back by nobody
pub none_holds : (zs : List Session) (items : List Item) → held_among to_all zs items ≡ []
none_holds zs [] = refl
none_holds zs (Entered conn sid ∷ items) = none_holds zs items
none_holds zs (Full conn sid ∷ items) = none_holds zs items
none_holds zs (RouteFull row ∷ items) = none_holds zs items
none_holds zs (MapTooLong row ∷ items) = none_holds zs items
none_holds zs (Unmapped ∷ items) = none_holds zs items
none_holds zs (MappedTooLong index ∷ items) = none_holds zs items
