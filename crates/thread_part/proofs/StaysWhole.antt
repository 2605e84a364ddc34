-- Local calls and late draws leave a part as whole as it was, and the names that its context has bound.
use Rattle.std.proofs.Common.{◌≡◌, ℕ, ℤ, Bool, true, false, refl, sym, ap, ◌∙◌, subst, Option, None, Some, is_some, IfSome, Result, Ok, Err, OnOk, OnErr}
use Rattle.std.specs.Option.{option_map}
use Rattle.std.proofs.lemmas.Bool.{cond_both}
use Rattle.egl_calls.specs.Calls.{CallValue}
use Rattle.egl_calls.specs.declared.errors.EglError.{EglError}
use Rattle.egl_calls.specs.declared.errors.EglError.TheVariants.{Success}
use Rattle.egl_calls.specs.declared.errors.GlError.{GlError}
use Rattle.egl_calls.specs.declared.kinds.GlKind.{GlKind}
use Rattle.call_table.specs.Rows.{gl_role}
use Rattle.call_table.specs.declared.roles.Role.{Role}
use Rattle.call_table.specs.declared.roles.Role.TheVariants.{Clears}
use Rattle.egl_calls.specs.declared.kinds.Kind.{Kind}
use Rattle.egl_calls.specs.declared.kinds.Kind.TheVariants.{Egl, Gl, Own as OwnCall}
use Rattle.call_rules.specs.GlRules as gl_rules
use Rattle.context_state.specs.Calls.{apply}
use Rattle.context_state.specs.Kinds.{context_gl_call}
use Rattle.context_state.specs.Parts.{PartValue, noted}
use Rattle.driver_objects.specs.Storages.{cleared_image}
use Rattle.pixel_rows.specs.Images.{ImageValue}
use Rattle.pixel_rows.specs.declared.rects.Rect.{Rect}
use Rattle.rect_pipeline.specs.Samplers.{SamplerValue}
use Rattle.egl_model.specs.Drawing.{clears_colour}
use Rattle.egl_model.specs.Parts.{Own, Private}
use Rattle.model_laws.specs.Late.{drawing, drawn_own, drawn_part}
use Rattle.model_laws.specs.Local.{LocalEffect, after_rules, by_kind, cleared_locally, egl_locally, egl_value, facts_locally, gl_locally, gl_with, in_wait, local_refusal, locally, locally_by, object_locally, part_after}
use Rattle.model_laws.proofs.Calls.KeptNames.{applied_names}
use Rattle.model_laws.proofs.Changes.Setters.{KeepsForm, form-cleared, form-drawn}
use Rattle.thread_part.specs.Private.{HasContext, HasNoSurfaces, HasSurfaces, IsAllOrNothing, IsSurfaceImage, names_bound}
use Rattle.thread_part.proofs.AllOrNothing.{none_of}

-- ---- The same is there: pixels of the same surfaces, and a context with the same names bound.
record IsLike (x y : Own) : Type 0 where
  pub names : option_map (λ (q : PartValue). q.bound) y.context ≡ option_map (λ (q : PartValue). q.bound) x.context
  pub draw : is_some y.draw ≡ is_some x.draw
  pub read : y.read ≡ x.read
  pub drawn : IfSome x.draw IsSurfaceImage → IfSome y.draw IsSurfaceImage

some_map : {A B : Type 0} (f : A → B) (o : Option A) → is_some (option_map f o) ≡ is_some o
some_map f None = refl
some_map f (Some x) = refl

like-same : (x : Own) → IsLike x x
like-same x = record { names = refl; draw = refl; read = refl; drawn = λ h. h }

like-error : (x : Own) (e : EglError) → IsLike x (record x { error = e })
like-error x e = record { names = refl; draw = refl; read = refl; drawn = λ h. h }

like-part : (x : Own) (q r : PartValue) → x.context ≡ Some q → r.bound ≡ q.bound → IsLike x (record x { context = Some r })
like-part x q r e h = record { names = ap Some h ∙ sym (ap (option_map (λ (p : PartValue). p.bound)) e); draw = refl; read = refl; drawn = λ k. k }

-- pixels that are written keep their sides, and are the surface's own as before
still_surface : (f : ImageValue → ImageValue) → KeepsForm f → (o : Option ImageValue) → IfSome o IsSurfaceImage → IfSome (option_map f o) IsSurfaceImage
still_surface f k None a = tt
still_surface f k (Some i) a = let b = k.each i.format i.width i.height false i (record { image = a.image; format = refl; width = refl; height = refl; owned = a.owned }) in record { image = b.image; owned = b.owned }

like-drawn : (f : ImageValue → ImageValue) → KeepsForm f → (x : Own) → IsLike x (drawn_own f x)
like-drawn f k x = record { names = refl; draw = some_map f x.draw; read = refl; drawn = still_surface f k x.draw }

-- ---- Local calls.
like-cleared : (x : Own) (q : PartValue) (c : CallValue) → IsLike x (cleared_locally x q c)
like-cleared x q c = cond_both (clears_colour c) (drawn_own (cleared_image q) x) x (IsLike x) (λ e. like-drawn (cleared_image q) (form-cleared q) x) (λ e. like-same x)

like-object : (r : Role) (p : Private) (q : PartValue) (c : CallValue) → IsLike p.own (object_locally r p q c).own
like-object Clears p q c = like-cleared p.own q c
like-object r p q c = like-same p.own

like-by : (o : Option GlKind) (p : Private) (q : PartValue) (k : GlKind) (c : CallValue) → p.own.context ≡ Some q → IsLike p.own (locally_by o p q k c).own
like-by (Some own) p q k c e = like-part p.own q (apply c q).part e (applied_names c q)
like-by None p q k c e = like-object (gl_role k) p q c

like-ruled : (o : Option GlError) (p : Private) (q : PartValue) (f : LocalEffect) → p.own.context ≡ Some q → IsLike p.own f.own → IsLike p.own (after_rules p.own q o f).own
like-ruled (Some g) p q f e l = like-part p.own q (noted g q) e refl
like-ruled None p q f e l = l

like-with : (p : Private) (o : Option PartValue) (k : GlKind) (c : CallValue) → p.own.context ≡ o → IsLike p.own (gl_with p o k c).own
like-with p None k c e = like-same p.own
like-with p (Some q) k c e = like-ruled (gl_rules.gl_refusal c (facts_locally p)) p q (gl_locally p q k c) e (like-by (context_gl_call k) p q k c e)

like-egl : (p : Private) (o : Option EglError) (v : ℤ) → IsLike p.own (egl_locally p o v).own
like-egl p (Some e) v = like-error p.own e
like-egl p None v = like-error p.own Success

like-kind : (p : Private) (k : Kind) (c : CallValue) → IsLike p.own (by_kind p k c).own
like-kind p (Egl k) c = like-egl p (local_refusal c) (egl_value p k c)
like-kind p (Gl k) c = like-with p p.own.context k c refl
like-kind p (OwnCall k) c = like-same p.own

like-wait : (b : Bool) (p : Private) (c : CallValue) → IsLike p.own (in_wait b p c).own
like-wait true p c = like-same p.own
like-wait false p c = like-kind p c.kind c

like-local : (p : Private) (c : CallValue) → IsLike p.own (locally p c).own
unfolding locally
like-local p c = like-wait p.kept.waits p c

like-draw : (p : Private) (from : Option SamplerValue) (r : Rect) → IsLike p.own (drawn_own (drawing p.own.context from r) p.own)
like-draw p from r = by p.own.context
  where
    by : (o : Option PartValue) → IsLike p.own (drawn_own (drawing o from r) p.own)
    by None = like-drawn (λ i. i) (record { each = λ f w k z i a. a }) p.own
    by (Some q) = like-drawn (drawing (Some q) from r) (form-drawn q from r) p.own

-- ---- So the part is as whole as it was.
same_context : (x y : Own) → IsLike x y → is_some y.context ≡ is_some x.context
same_context x y l = sym (some_map (λ (q : PartValue). q.bound) y.context) ∙ ap (λ (o : Option _). is_some o) l.names ∙ some_map (λ (q : PartValue). q.bound) x.context

none_before : {A B : Type 0} (o : Option A) (p : Option B) → is_some p ≡ is_some o → p ≡ None → o ≡ None
none_before o p e h = none_of o (sym e ∙ ap (λ (q : Option _). is_some q) h)

no_surfaces-like : (p : Private) (x : Own) → IsLike p.own x → HasNoSurfaces p → HasNoSurfaces (record p { own = x })
no_surfaces-like p x l a = record {
  draw_handle = a.draw_handle;
  read_handle = a.read_handle;
  draw = none_before x.draw p.own.draw (sym l.draw) a.draw;
  read = l.read ∙ a.read;
  same = a.same;
}

surfaces-like : (next : ℕ) (p : Private) (x : Own) → IsLike p.own x → HasSurfaces next p → HasSurfaces next (record p { own = x })
surfaces-like next p x l a = record {
  draw_handle = a.draw_handle;
  read_handle = a.read_handle;
  draw = l.draw ∙ a.draw;
  read = ap (λ (o : Option ImageValue). is_some o) l.read ∙ a.read;
  drawn = l.drawn a.drawn;
  other = subst (λ (o : Option ImageValue). IfSome o IsSurfaceImage) (sym l.read) a.other;
}

context-like : (next : ℕ) (p : Private) (x : Own) → IsLike p.own x → HasContext next p → HasContext next (record p { own = x })
context-like next p x l a = record {
  display = a.display;
  context_handle = a.context_handle;
  context = same_context p.own x l ∙ a.context;
  without = λ e. no_surfaces-like p x l (a.without (none_before p.own.draw x.draw l.draw e));
  with = λ e. surfaces-like next p x l (a.with (sym l.draw ∙ e));
}

whole-like : (next : ℕ) (p : Private) (x : Own) → IsLike p.own x → IsAllOrNothing next p → IsAllOrNothing next (record p { own = x })
whole-like next p x l a = record {
  without = λ h.
      let b = a.without (none_before p.own.context x.context (same_context p.own x l) h) in
      record { display = b.display; context_handle = b.context_handle; context = h; surfaces = no_surfaces-like p x l b.surfaces };
  with = λ h. context-like next p x l (a.with (sym (same_context p.own x l) ∙ h));
}

pub local_whole : {V E : Type 0} (result : Result V E) (p q : Private) (c : CallValue) → OnOk result (q ≡ part_after p c) → OnErr result (q ≡ p) → (next : ℕ) → IsAllOrNothing next p → IsAllOrNothing next q
local_whole (Ok v) p q c h k next a = subst (IsAllOrNothing next) (sym h) (whole-like next p (locally p c).own (like-local p c) a)
local_whole (Err e) p q c h k next a = subst (IsAllOrNothing next) (sym k) a

-- what the driver keeps too is as it was
pub local_kept : {V E : Type 0} (result : Result V E) (p q : Private) (c : CallValue) → OnOk result (q ≡ part_after p c) → OnErr result (q ≡ p) → q.kept ≡ p.kept
local_kept (Ok v) p q c h k = ap (λ (x : Private). x.kept) h
local_kept (Err e) p q c h k = ap (λ (x : Private). x.kept) k

pub local_names : {V E : Type 0} (result : Result V E) (p q : Private) (c : CallValue) → OnOk result (q ≡ part_after p c) → OnErr result (q ≡ p) → names_bound q ≡ names_bound p
local_names (Ok v) p q c h k = ap names_bound h ∙ (like-local p c).names
local_names (Err e) p q c h k = ap names_bound k

pub drawn_whole : (p q : Private) (from : Option SamplerValue) (r : Rect) → q ≡ drawn_part (drawing p.own.context from r) p → (next : ℕ) → IsAllOrNothing next p → IsAllOrNothing next q
drawn_whole p q from r h next a = subst (IsAllOrNothing next) (sym h) (whole-like next p (drawn_own (drawing p.own.context from r) p.own) (like-draw p from r) a)
