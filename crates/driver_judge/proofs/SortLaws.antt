-- A call that answers a new handle makes one.
use Rattle.std.proofs.Common.{◌≡◌, ℕ, ◌||◌, ◌==◌, Bool, true, false, refl, sym, ap, ◌∙◌, if◌then◌else◌, Option, None, Some}
use Rattle.std.specs.List.{list_any}
use Rattle.std.specs.Option.{option_and_then}
use Rattle.call_table.specs.Rows.{egl_answers, gl_answers}
use Rattle.call_table.specs.declared.answers.AnswerSort.{AnswerSort}
use Rattle.call_table.specs.declared.answers.AnswerSort.TheVariants.{Same, Makes, Displays, Currents, ConfigLists, ConfigAttributes, Attributes, MakesNames, FreesNames, Bindings, Attachments, Reads}
use Rattle.display_table.specs.declared.handles.HandleKind.{HandleKind}
use Rattle.egl_calls.specs.Arguments.{number}
use Rattle.egl_calls.specs.Calls.{CallValue}
use Rattle.egl_calls.specs.declared.kinds.EglKind.{EglKind}
use Rattle.egl_calls.specs.declared.kinds.EglKind.TheVariants.{ClientWaitSync, GetError, GetSyncAttrib}
use Rattle.egl_calls.specs.declared.kinds.GlKind.{GlKind}
use Rattle.egl_calls.specs.declared.kinds.GlKind.TheVariants.{GetError as GlGetError}
use Rattle.egl_calls.specs.declared.kinds.Kind.{Kind}
use Rattle.egl_calls.specs.declared.kinds.Kind.TheVariants.{Egl, Gl, Own as OwnCall}
use Rattle.egl_calls.specs.declared.places.TheConstants.{ATTACHMENT_PNAME, ATTRIBUTE, PNAME}
use Rattle.egl_names.specs.declared.codes.TheConstants.{EGL_CONFIG_ID, GL_ARRAY_BUFFER_BINDING, GL_ELEMENT_ARRAY_BUFFER_BINDING, GL_FRAMEBUFFER_ATTACHMENT_OBJECT_NAME_OES, GL_FRAMEBUFFER_BINDING_OES, GL_RENDERBUFFER_BINDING_OES, GL_TEXTURE_BINDING_2D}
use Rattle.egl_model.specs.Currents.{current_context}
use Rattle.egl_model.specs.Framebuffers.{attachment_of}
use Rattle.share_group.specs.declared.names.NameKind.TheVariants.{Texture, Buffer, Renderbuffer, Framebuffer}
use Rattle.egl_model.specs.State.{State}
use Rattle.egl_model.specs.Syncs.{serve, sync_handle}
use Rattle.egl_model.specs.Step.{step}
use Rattle.framebuffer_objects.specs.declared.framebuffers.Attached.{Attached}
use Rattle.log_reader.specs.declared.answers.Answer.{Answer}
use Rattle.model_laws.specs.Extents.{made_handle}
use Rattle.driver_judge.specs.Fences.{is_signaled_by, step_beside}
use Rattle.driver_judge.specs.Sorts.{answers, attached_name, attachment, attribute_sort, binding, config_attribute, own_attributes, sort_by, sort_of}
use Rattle.driver_judge.specs.declared.sorts.Sort.{Sort}
use Rattle.driver_judge.specs.declared.sorts.Sort.TheVariants.{Equal, Own, NewHandle, ConfigId, SameName}

-- ---- What an attribute or a parameter answers is no new handle.
abbrev makes_new : Sort → Bool
makes_new (NewHandle kind) = true
makes_new sort = false

neither : (b : Bool) (x y : Sort) → makes_new x ≡ false → makes_new y ≡ false → makes_new (if b then x else y) ≡ false
neither true x y f g = f
neither false x y f g = g

no_attachment : (a : Option Attached) → makes_new (attached_name a) ≡ false
no_attachment None = refl
no_attachment (Some a) = refl

no_new_binding : (which : ℕ) → makes_new (binding which) ≡ false
unfolding binding
no_new_binding which =
    let framebuffer : Sort = if which == GL_FRAMEBUFFER_BINDING_OES then SameName Framebuffer else Equal in
    let renderbuffer : Sort = if which == GL_RENDERBUFFER_BINDING_OES then SameName Renderbuffer else framebuffer in
    let buffer : Sort = if (which == GL_ARRAY_BUFFER_BINDING) || (which == GL_ELEMENT_ARRAY_BUFFER_BINDING) then SameName Buffer else renderbuffer in
    neither (which == GL_TEXTURE_BINDING_2D) (SameName Texture) buffer refl
    (neither ((which == GL_ARRAY_BUFFER_BINDING) || (which == GL_ELEMENT_ARRAY_BUFFER_BINDING)) (SameName Buffer) renderbuffer refl
    (neither (which == GL_RENDERBUFFER_BINDING_OES) (SameName Renderbuffer) framebuffer refl
    (neither (which == GL_FRAMEBUFFER_BINDING_OES) (SameName Framebuffer) Equal refl refl)))

no_new_config : (a : ℕ) → makes_new (config_attribute a) ≡ false
no_new_config a =
    let own : Bool = list_any (λ own. a == own) own_attributes in
    neither (a == EGL_CONFIG_ID) ConfigId (if own then Own else Equal) refl (neither own Own Equal refl refl)

no_new_attribute : (a : ℕ) → makes_new (attribute_sort a) ≡ false
no_new_attribute a = neither (a == EGL_CONFIG_ID) ConfigId Equal refl refl

no_new_attachment : (a : Option Attached) (which : ℕ) → makes_new (attachment a which) ≡ false
no_new_attachment a which = neither (which == GL_FRAMEBUFFER_ATTACHMENT_OBJECT_NAME_OES) (attached_name a) Equal (no_attachment a) refl

no_new : (sort : Sort) (kind : HandleKind) → makes_new sort ≡ false → sort ≡ NewHandle kind → ⊥
no_new sort kind f e = let g : true ≡ false = sym (ap makes_new e) ∙ f in cc

new_by : (s : State) (t : ℕ) (c : CallValue) (a : AnswerSort) (kind : HandleKind) → sort_by s t c a ≡ NewHandle kind → a ≡ Makes kind
new_by s t c Same kind e = cc
new_by s t c (Makes k) kind e = cc
new_by s t c Displays kind e = cc
new_by s t c (Currents k) kind e = cc
new_by s t c ConfigLists kind e = cc
new_by s t c ConfigAttributes kind e = absurd (no_new (config_attribute (number c ATTRIBUTE)) kind (no_new_config (number c ATTRIBUTE)) e)
new_by s t c Attributes kind e = absurd (no_new (attribute_sort (number c ATTRIBUTE)) kind (no_new_attribute (number c ATTRIBUTE)) e)
new_by s t c (MakesNames k) kind e = cc
new_by s t c (FreesNames k) kind e = cc
new_by s t c Bindings kind e = absurd (no_new (binding (number c PNAME)) kind (no_new_binding (number c PNAME)) e)
new_by s t c Attachments kind e = absurd (no_new (sort_by s t c Attachments) kind (no_new_attachment (option_and_then (λ n. attachment_of s n c) (current_context s t)) (number c ATTACHMENT_PNAME)) e)
new_by s t c Reads kind e = cc

-- ---- The calls that answer one. One kind stands apart, so that the others are tried one by one.
made_egl : (k : EglKind) (kind : HandleKind) → egl_answers k ≡ Makes kind → made_handle k ≡ Some kind
made_egl GetError kind e = cc
made_egl k kind e = cc

made_gl : (k : GlKind) (kind : HandleKind) → gl_answers k ≡ Makes kind → ⊥
made_gl GlGetError kind e = cc
made_gl k kind e = cc

-- a call of EGL that makes a handle of a kind
pub record MakesHandle (c : CallValue) (kind : HandleKind) : Type 0 where
  pub call : EglKind
  pub is : c.kind ≡ Egl call
  pub made : made_handle call ≡ Some kind

makes_by : (c : CallValue) (k : Kind) (kind : HandleKind) → c.kind ≡ k → answers k ≡ Makes kind → MakesHandle c kind
makes_by c (Egl k) kind h e = record { call = k; is = h; made = made_egl k kind e }
makes_by c (Gl k) kind h e = absurd (made_gl k kind e)
makes_by c (OwnCall k) kind h e = absurd (let f : Same ≡ Makes kind = e in cc)

pub makes_handle : (s : State) (t : ℕ) (c : CallValue) (kind : HandleKind) → sort_of s t c ≡ NewHandle kind → MakesHandle c kind
unfolding sort_of
makes_handle s t c kind e = makes_by c c.kind kind refl (new_by s t c (answers c.kind) kind e)

-- no fence is served before it
unserved : (k : EglKind) (kind : HandleKind) (c : CallValue) (a : Answer) → made_handle k ≡ Some kind → is_signaled_by (Egl k) c a ≡ false
unserved ClientWaitSync kind c a e = absurd (cc e)
unserved GetSyncAttrib kind c a e = absurd (cc e)
unserved k kind c a e = refl

pub making_is_step : (s : State) (t : ℕ) (c : CallValue) (a : Answer) (kind : HandleKind) → MakesHandle c kind → step_beside s t c a ≡ step s t c
unfolding step_beside
making_is_step s t c a kind m = ap (λ (b : Bool). step (if b then serve (sync_handle s c) s else s) t c) (ap (λ (k : Kind). is_signaled_by k c a) m.is ∙ unserved m.call kind c a m.made)
