-- What the conditions of the calls on framebuffers and what is attached to them ask (OES_framebuffer_object).
use Rattle.std.specs.Prelude.{ℕ, Bool, not, ◌||◌, ◌==◌}
use Rattle.egl_calls.specs.Calls.{CallValue}
use Rattle.egl_calls.specs.Arguments.{is_zero}
use Rattle.egl_calls.specs.declared.places.TheConstants.{ATTACHED_NAME}
use Rattle.egl_names.specs.declared.codes.TheConstants.{GL_FRAMEBUFFER_ATTACHMENT_OBJECT_NAME_OES, GL_FRAMEBUFFER_ATTACHMENT_OBJECT_TYPE_OES}

-- what is attached has a name: 0 detaches
abbrev pub attaches : CallValue → Bool
attaches c = not (is_zero c ATTACHED_NAME)

abbrev pub is_attachment_parameter : ℕ → Bool
is_attachment_parameter pname = (pname == GL_FRAMEBUFFER_ATTACHMENT_OBJECT_TYPE_OES) || (pname == GL_FRAMEBUFFER_ATTACHMENT_OBJECT_NAME_OES)
