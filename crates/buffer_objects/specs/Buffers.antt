-- Buffer objects (OpenGL ES 1.1, section 2.9).
use Rattle.std.specs.Prelude.{ℕ, ℤ, pos, List, [], ◌==◌, length, if◌then◌else◌}
use Rattle.std.specs.declared.option.Option.{Option}
use Rattle.std.specs.declared.option.Option.TheVariants.{None, Some}
use Rattle.egl_names.specs.declared.codes.TheConstants.{GL_BUFFER_SIZE, GL_BUFFER_USAGE}
use Rattle.buffer_objects.specs.Contents.{filled, written}
use Rattle.buffer_objects.specs.Usages.{usage_code, usage_of}
use Rattle.buffer_objects.specs.declared.usages.Usage.{Usage}
use Rattle.buffer_objects.specs.declared.usages.Usage.TheVariants.{StaticDraw}

pub record BufferValue : Type 0 where
  pub contents : List ℕ
  pub usage : Usage

abbrev pub fresh : BufferValue
fresh = record { contents = []; usage = StaticDraw }

-- glBufferData: all is new
abbrev pub specified : ℕ → ℕ → List ℕ → BufferValue
specified size usage bytes = record { contents = filled size bytes; usage = usage_of usage }

-- glBufferSubData: a part is replaced, and the rest, the size and the usage stay
abbrev pub replaced : ℕ → ℕ → List ℕ → BufferValue → BufferValue
replaced offset size bytes b = record b { contents = written offset (filled size bytes) b.contents }

-- glGetBufferParameteriv
abbrev pub parameter : ℕ → BufferValue → Option ℤ
parameter pname b =
    if pname == GL_BUFFER_SIZE then Some (pos (length b.contents))
    else if pname == GL_BUFFER_USAGE then Some (pos (usage_code b.usage))
    else None
