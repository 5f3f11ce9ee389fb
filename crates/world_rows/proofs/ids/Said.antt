-- What cached ids say of what was found is so.
use Rattle.std.proofs.Common.{◌≡◌, ◌∙◌, ℕ, List, Option, Some, None, ap, sym, subst}
use Rattle.std.specs.Option.{unwrap_or}
use Rattle.std.specs.Global.{Vec}
use Rattle.subjects.specs.Subject.{tokens_of}
use Rattle.sublist.specs.Pairs.{matching_ids}
use Rattle.world_rows.specs.ids.Entries.{Entries, IsIndexOf, IsTold}
use Rattle.world_rows.specs.ids.CachedIds.{IsSaid, Says}
use Rattle.world_rows.specs.declared.ids.cached_ids.CachedIds.{CachedIds}

pub said_so : (entries : Entries) (account text : List ℕ) (ids : Vec ℕ) (cached : CachedIds) → Says account text ids cached → IsTold account (tokens_of text) ids.items entries → IsSaid cached entries
said_so entries account text ids cached says told = λ found are listing index.
    ap (λ (o : Option (Vec ℕ)). (unwrap_or o found).items) (sym are ∙ says.ids_are)
    ∙ (told listing (subst (λ a. IsIndexOf listing a entries) says.account_is index) ∙ ap (λ t. matching_ids listing (tokens_of t)) (sym says.text_is))
