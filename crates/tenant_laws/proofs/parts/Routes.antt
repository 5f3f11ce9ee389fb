-- Response routes of a set of exporters.
use Rattle.std.proofs.Common.{◌≡◌, ◌∙◌, Bool, true, false, cond, List, [], ◌∷◌, Some, ap, sym, refl, unwrap_or}
use Rattle.std.specs.Map.{lookup}
use Rattle.std.specs.Cmp.Lexicographic.{bytes_decides}
use Rattle.indexmap.specs.IndexMap.{insert_entry}
use Rattle.policy_doc.specs.Accounts.{Name}
use Rattle.service_exporter.specs.Routes.{Exporter, kept_of, no_routes, pruned_of, spent_of, with_route}
use Rattle.service_routes.specs.Routes.{changed, each, exporter_of, opened, same_name}
use Rattle.tenant_laws.specs.parts.Laws.{HasInPart, KeepsInPart, OpensInPart, PrunesInPart, SpendsInPart}
use Rattle.tenant_laws.specs.parts.Part.{exporters_of}

-- names that are equal are in a set or not together
in_together : (K : Name → Bool) (a b : Name) → same_name a b ≡ true → K a ≡ K b
in_together K a b same = ap K ((bytes_decides a b).0 same)

apart : {P : Type 0} (K : Name → Bool) (a b : Name) (c : Bool) → K a ≡ c → same_name a b ≡ true → (K b ≡ c → P) → P
apart K a b c is same f = f (sym (in_together K a b same) ∙ is)

pub has : HasInPart
has K name [] is = refl
has K name (e ∷ all) is = by (K e.0) refl (same_name name e.0) refl (has K name all is)
  where
    by : (b : Bool) → K e.0 ≡ b → (c : Bool) → same_name name e.0 ≡ c → exporter_of name (exporters_of K all) ≡ exporter_of name all →
        exporter_of name (cond b (e ∷ exporters_of K all) (exporters_of K all)) ≡ unwrap_or (cond c (Some e.1) (lookup (same_name name) all)) no_routes
    by true e' true f later = rw f refl
    by true e' false f later = rw f later
    by false e' false f later = later
    by false e' true f later = let no : false ≡ true = sym e' ∙ sym (in_together K name e.0 f) ∙ is in absurd (cc)

-- ---- one exporter changed

put_in : (K : Name → Bool) (name : Name) (x : Exporter) (all : List (Name × Exporter)) → K name ≡ true →
    exporters_of K (insert_entry same_name all name x) ≡ insert_entry same_name (exporters_of K all) name x
put_in K name x [] is = rw is refl
put_in K name x (e ∷ all) is = by (same_name name e.0) refl (K e.0) refl (put_in K name x all is)
  where
    by : (b : Bool) → same_name name e.0 ≡ b → (c : Bool) → K e.0 ≡ c → exporters_of K (insert_entry same_name all name x) ≡ insert_entry same_name (exporters_of K all) name x →
        exporters_of K (cond b ((e.0, x) ∷ all) (e ∷ insert_entry same_name all name x)) ≡ insert_entry same_name (cond c (e ∷ exporters_of K all) (exporters_of K all)) name x
    by true f true g later = rw (g, f) refl
    by true f false g later = let no : false ≡ true = sym g ∙ sym (in_together K name e.0 f) ∙ is in absurd (cc)
    by false f true g later = rw (g, f) (ap (λ l. e ∷ l) later)
    by false f false g later = rw g later

put_elsewhere : (K : Name → Bool) (name : Name) (x : Exporter) (all : List (Name × Exporter)) → K name ≡ false →
    exporters_of K (insert_entry same_name all name x) ≡ exporters_of K all
put_elsewhere K name x [] is = rw is refl
put_elsewhere K name x (e ∷ all) is = by (same_name name e.0) refl (K e.0) refl (put_elsewhere K name x all is)
  where
    by : (b : Bool) → same_name name e.0 ≡ b → (c : Bool) → K e.0 ≡ c → exporters_of K (insert_entry same_name all name x) ≡ exporters_of K all →
        exporters_of K (cond b ((e.0, x) ∷ all) (e ∷ insert_entry same_name all name x)) ≡ cond c (e ∷ exporters_of K all) (exporters_of K all)
    by true f true g later = let no : false ≡ true = sym is ∙ in_together K name e.0 f ∙ g in absurd (cc)
    by true f false g later = rw g refl
    by false f true g later = rw g (ap (λ l. e ∷ l) later)
    by false f false g later = rw g later

pub opens : OpensInPart
opens K name r all = by (K name) refl
  where
    by : (b : Bool) → K name ≡ b → exporters_of K (opened name r all) ≡ cond b (opened name r (exporters_of K all)) (exporters_of K all)
    by true is =
        put_in K name (with_route r (exporter_of name all)) all is
        ∙ ap (λ x. insert_entry same_name (exporters_of K all) name (with_route r x)) (sym (has K name all is))
    by false is = put_elsewhere K name (with_route r (exporter_of name all)) all is

changed_in : (K : Name → Bool) (name : Name) (f : Exporter → Exporter) (all : List (Name × Exporter)) → exporters_of K (changed name f all) ≡ cond (K name) (changed name f (exporters_of K all)) (exporters_of K all)
changed_in K name f [] = by (K name)
  where
    by : (b : Bool) → [] ≡ cond b (changed name f []) []
    by true = refl
    by false = refl
changed_in K name f (e ∷ all) = by (same_name name e.0) refl (K e.0) refl (K name) refl (changed_in K name f all)
  where
    by : (b : Bool) → same_name name e.0 ≡ b → (c : Bool) → K e.0 ≡ c → (d : Bool) → K name ≡ d →
        exporters_of K (changed name f all) ≡ cond (K name) (changed name f (exporters_of K all)) (exporters_of K all) →
        exporters_of K (cond b ((e.0, f e.1) ∷ all) (e ∷ changed name f all)) ≡ cond d (changed name f (cond c (e ∷ exporters_of K all) (exporters_of K all))) (cond c (e ∷ exporters_of K all) (exporters_of K all))
    by true f' true g true h later = rw (g, f') refl
    by true f' false g false h later = rw g refl
    by true f' true g false h later = let no : false ≡ true = sym h ∙ in_together K name e.0 f' ∙ g in absurd (cc)
    by true f' false g true h later = let no : false ≡ true = sym g ∙ sym (in_together K name e.0 f') ∙ h in absurd (cc)
    by false f' true g true h later = rw (g, f') (ap (λ l. e ∷ l) (rw h at later))
    by false f' true g false h later = rw g (ap (λ l. e ∷ l) (rw h at later))
    by false f' false g true h later = rw g (rw h at later)
    by false f' false g false h later = rw g (rw h at later)

pub spends : SpendsInPart
spends K name s all = changed_in K name (spent_of s) all

-- ---- each exporter changed

each_in : (K : Name → Bool) (f : Exporter → Exporter) (all : List (Name × Exporter)) → exporters_of K (each f all) ≡ each f (exporters_of K all)
each_in K f [] = refl
each_in K f (e ∷ all) = by (K e.0) (each_in K f all)
  where
    by : (b : Bool) → exporters_of K (each f all) ≡ each f (exporters_of K all) → cond b ((e.0, f e.1) ∷ exporters_of K (each f all)) (exporters_of K (each f all)) ≡ each f (cond b (e ∷ exporters_of K all) (exporters_of K all))
    by true later = ap (λ l. (e.0, f e.1) ∷ l) later
    by false later = later

pub prunes : PrunesInPart
prunes K now all = each_in K (pruned_of now) all

pub keeps : KeepsInPart
keeps K row_again all = each_in K (kept_of row_again) all
