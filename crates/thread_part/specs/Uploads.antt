-- What a call gives a texture or a buffer, as far as its thread's part and the call alone tell it.
use Rattle.std.specs.Prelude.{◌||◌, ◌&&◌, not, nat_le, Bool, true, false, length, max, if◌then◌else◌, Option, None, Some, is_some}
use Rattle.std.specs.Option.{option_map}
use Rattle.egl_calls.specs.Calls.{CallValue}
use Rattle.egl_calls.specs.Arguments.{number}
use Rattle.egl_calls.specs.declared.kinds.Kind.{Kind}
use Rattle.egl_calls.specs.declared.kinds.Kind.TheVariants.{Gl}
use Rattle.egl_calls.specs.declared.kinds.GlKind.TheVariants.{BufferData, CopyTexImage2d, TexImage2d}
use Rattle.egl_calls.specs.declared.places.TheConstants.{BUFFER_SIZE}
use Rattle.call_rules.specs.GlRules as gl_rules
use Rattle.call_rules.specs.declared.gl_facts.GlFacts.{GlFacts}
use Rattle.buffer_objects.specs.Buffers.{BufferValue, fresh}
use Rattle.buffer_objects.specs.Contents.{given}
use Rattle.context_state.specs.Parts.{PartValue}
use Rattle.driver_objects.specs.Storages.{StorageValue}
use Rattle.egl_model.specs.Buffers.{with_data}
use Rattle.egl_model.specs.Copies.{copied_level, copies_nothing}
use Rattle.egl_model.specs.Parts.{Private}
use Rattle.egl_model.specs.Textures.{new_level}
use Rattle.model_laws.specs.Local.{facts_locally, has_framebuffer, read_image}
use Rattle.thread_part.specs.declared.uploads.Upload.{Upload}
use Rattle.thread_part.specs.declared.uploads.Upload.TheVariants.{Contents, Pixels}
use Rattle.thread_part.specs.declared.uploads.TheConstants.{SMALL_BYTES}

-- the calls that give something that may be made before their turn
abbrev pub is_upload : Kind → Bool
is_upload (Gl TexImage2d) = true
is_upload (Gl CopyTexImage2d) = true
is_upload (Gl BufferData) = true
is_upload k = false

-- what such a call is judged by before its turn: nothing that others may change is against it
abbrev pub early_facts : Private → GlFacts
early_facts p = record (facts_locally p) { has_read_alpha = true; is_buffer_bound = true }

-- the new contents of a buffer
abbrev pub new_contents : CallValue → BufferValue
new_contents c = with_data c fresh

-- no more than the call itself holds, or few bytes: the driver may have no room for them
abbrev pub are_few : CallValue → Bool
are_few c = nat_le (number c BUFFER_SIZE) (max (length (given c.bytes)) SMALL_BYTES)

abbrev pub contents_early : CallValue → Option Upload
contents_early c = if are_few c then Some (Contents (new_contents c)) else None

-- what a glCopyTexImage2D gives that reads from the window system's framebuffer
abbrev pub copied_locally : Private → PartValue → CallValue → Option StorageValue
copied_locally p q c = if has_framebuffer q || copies_nothing c then None else option_map (copied_level c) (read_image p)

abbrev pub given_by : Private → PartValue → Kind → CallValue → Option Upload
given_by p q (Gl TexImage2d) c = option_map (λ v. Pixels v) (new_level c q.unpack_alignment)
given_by p q (Gl CopyTexImage2d) c = option_map (λ v. Pixels v) (copied_locally p q c)
given_by p q (Gl BufferData) c = contents_early c
given_by p q k c = None

abbrev pub upload_with : Private → Option PartValue → CallValue → Option Upload
upload_with p None c = None
upload_with p (Some q) c = if is_some (gl_rules.gl_refusal c (early_facts p)) then None else given_by p q c.kind c

-- what a call gives, of a thread with this part: nothing while it waits, without a context, and where a rule refuses the call
abbrev pub upload_of : Private → CallValue → Option Upload
upload_of p c = if is_upload c.kind && not p.kept.waits then upload_with p p.own.context c else None
