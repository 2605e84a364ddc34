-- Names that calls give fit 32 bits, and what is so where there is no group.
use Rattle.std.proofs.Common.{◌≡◌, ◌==◌, ℕ, zero, suc, ◌+◌, ◌≤◌, ℤ, pos, negsuc, ◌≤ℤ◌, Bool, true, false, ◌&&◌, cond, is_some, List, [], ◌∷◌, get_or, set, refl, sym, ap, ◌∙◌, arith, Option, None, Some, Result, Ok, Err}
use Rattle.std.specs.Prelude.{OnOk}
use Rattle.std.specs.Option.{option_map_or}
use Rattle.std.proofs.lemmas.Bool.{false≢true, and_right}
use Rattle.std.proofs.lemmas.List.{set-get_or}
use Rattle.driver_objects.specs.declared.objects.Object.{Object}
use Rattle.driver_objects.specs.declared.objects.Object.TheVariants.{Group}
use Rattle.share_group.specs.Groups.{GroupValue, names_of}
use Rattle.share_group.specs.declared.names.NameKind.{NameKind}
use Rattle.egl_model.specs.Objects.{as_group, change_group, group_in, with_group}
use Rattle.std.proofs.lemmas.Int.{ints}
use Rattle.egl_calls.specs.Ranges.{AreArguments, is_client_wait, unsigned}
use Rattle.egl_calls.specs.declared.kinds.Kind.{Kind}

within : (b : Bool) (z : ℤ) → b ≡ false → z ≤ℤ pos (cond b 9223372036854775807 4294967295) → unsigned z ≤ 4294967295
within true z h l = absurd (cc)
within false (pos n) h l = omega (arith, ints, l)
within false (negsuc n) h l = omega arith

pub name_fits : (k : Kind) (p : ℕ) (zs : List ℤ) (i : ℕ) → is_client_wait k ≡ false → AreArguments k p zs → unsigned (get_or zs i (pos 0)) ≤ 4294967295
name_fits k p [] i w a = omega arith
name_fits k p (z ∷ zs) zero w a = within ((p == 3) && is_client_wait k) z (and_right _ _ w) a.0.high
name_fits k p (z ∷ zs) (suc i) w a = name_fits k (p + 1) zs i w a.1

-- ---- Where there is no group.
pub no_group_names : (k : NameKind) (o : Option GroupValue) → is_some o ≡ false → option_map_or (names_of k) o [] ≡ []
no_group_names k None h = refl
no_group_names k (Some g) h = absurd (false≢true (sym h))

no_group : (f : GroupValue → GroupValue) (o : Option Object) → is_some (as_group o) ≡ false → with_group f o ≡ o
no_group f (Some (Group g)) h = absurd (false≢true (sym h))
no_group f o h = refl

pub no_group_same : (f : GroupValue → GroupValue) (g : ℕ) (os : List (Option Object)) → is_some (group_in os g) ≡ false → change_group f g os ≡ os
unfolding change_group
no_group_same f g os h = ap (set os g) (no_group f (get_or os g None) h) ∙ set-get_or os g None

pub ok_anyway : {A E P : Type 0} (r : Result A E) → P → OnOk r P
ok_anyway (Ok x) p = p
ok_anyway (Err e) p = tt
