-- what the slot has is so, as all that is cached
use Rattle.std.proofs.Common.{◌∙◌, ℕ, List, Option, Some, None, Bor, ap, sym}
use Rattle.std.specs.Prelude.{IfSome}
use Rattle.std.specs.Option.{option_copied}
use Rattle.subjects.specs.Subject.{tokens_of}
use Rattle.world_rows.specs.ids.CachedIds.{IsSaid}
use Rattle.world_rows.specs.ids.Entries.{Entries, IsTold}
use Rattle.world_rows.specs.ids.Told.{AreTold}
use Rattle.world_rows.proofs.ids.id_cache.IdCache.find.Goals as goal

pub returns-in-Some : goal.returns-in-Some
returns-in-Some c = here c.find.result c.find.ensures
  where
    here : (o : Option (Bor (List ℕ))) →
        IfSome o (λ found. (entries : Entries) → IsSaid c.in-Some.cached.now entries → IsTold c.args.account.now (tokens_of c.args.text.now) found.now entries) →
        IfSome o (λ ids. (entries : Entries) → AreTold c.args.self.now entries → IsTold c.args.account.now (tokens_of c.args.text.now) ids.now entries)
    here None is = tt
    here (Some ids) is = λ entries told. is entries (told c.args.self.now.at c.in-Some.cached.now (sym c.get.ensures ∙ ap option_copied c.in-Some.is))
