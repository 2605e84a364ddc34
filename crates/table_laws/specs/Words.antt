-- Which numbers of a call are looked at, by their places, and the standard's names of the parameters that stand there. A condition says where it looks, by itself or for what it asks of the state; roles say what effects and answers read besides.
use Rattle.std.specs.Prelude.{ℕ, ◌+◌, Bool, true, false, ◌&&◌, ◌||◌, ◌==◌, List, [], ◌∷◌, ◌++◌, if◌then◌else◌, codes, flat_map, map, slice_index_or}
use Rattle.std.specs.List.{list_all, list_any}
use Rattle.std.specs.Str.{bytes_eq}
use Rattle.share_group.specs.declared.names.NameKind.{NameKind}
use Rattle.share_group.specs.declared.names.NameKind.TheVariants.{Texture, Buffer, Renderbuffer, Framebuffer}
use Rattle.egl_calls.specs.declared.errors.EglError.{EglError}
use Rattle.egl_calls.specs.declared.errors.GlError.{GlError}
use Rattle.egl_calls.specs.declared.kinds.EglKind.{EglKind}
use Rattle.egl_calls.specs.declared.kinds.EglKind.TheVariants.{GetDisplay}
use Rattle.egl_calls.specs.declared.kinds.GlKind.{GlKind}
use Rattle.egl_calls.specs.declared.kinds.GlKind.TheVariants.{ClearColorx, Color4x, ColorMask}
use Rattle.egl_calls.specs.declared.kinds.OwnKind.{OwnKind}
use Rattle.egl_calls.specs.declared.kinds.OwnKind.TheVariants.{Post, Await, ReadFront}
use Rattle.egl_calls.specs.declared.places.TheConstants.{ALPHA, API, ASKED_NAME, ATTACHED_LEVEL, ATTACHED_NAME, ATTACHED_TARGET, ATTACHMENT, ATTACHMENT_PNAME, ATTRIBUTE, BLUE, BORDER, BOUND_NAME, BOUND_PARAM, BOUND_PNAME, BUFFER_OFFSET, BUFFER_PART_SIZE, BUFFER_SIZE, BUFFER_USAGE, CAP, CLIENT_BUFFER, CONFIG, CONTEXT, COPIED_BORDER, COPIED_HEIGHT, COPIED_PART_HEIGHT, COPIED_PART_WIDTH, COPIED_PART_X, COPIED_PART_Y, COPIED_WIDTH, COPIED_X, COPIED_Y, COUNT, DISPLAY, DISPLAY_ID, DRAW, DRAWN_HEIGHT, DRAWN_WIDTH, ENVIRONMENT_PARAM, ENVIRONMENT_PNAME, FLAGS, FORMAT, FRONT, GREEN, HEIGHT, IMAGE_FORMAT, IMAGE_HEIGHT, IMAGE_SOURCE, IMAGE_TYPE, IMAGE_WIDTH, INDEX, INTERNAL_FORMAT, LEVEL, MASK, NAMED, PARAM, PART_HEIGHT, PART_WIDTH, PNAME, POSTED, READ, READDRAW, RED, SHARE_CONTEXT, STORED_FORMAT, STORED_HEIGHT, STORED_WIDTH, SYNC_TYPE, TARGET, TARGET_IMAGE, TIMEOUT, TYPE, VALUE, WIDTH, WINDOW, X, X_OFFSET, Y, Y_OFFSET}
use Rattle.call_table.specs.declared.egl_conditions.EglCondition.{EglCondition}
use Rattle.call_table.specs.declared.egl_conditions.EglCondition.TheVariants.{NoDisplay, NotInitialized, NoConfig, NoConfigAttribute, NoSurfaceAttribute, NoContextAttribute, NoSyncAttribute, NoWindowBit, NoWindow, WindowUsed, NoWindowVideo, NoPbufferVideo, NoSurface, NoSwapAttribute, NoSwapBehavior, NoApi, NoShare, ShareElsewhere, NoContext, WrongSurface, WrongContext, WithoutContext, OneSurface, NotCompatible, ContextElsewhere, SurfaceElsewhere, NoReaddraw, NotDrawnTo, NoFence, NoContextHere, NoSync, SomeFlags, NoImageSource, NoPixels, NotComplete, NoLevel, Sibling, NoImage}
use Rattle.call_table.specs.declared.egl_table.TheConstants.{EGL_CALLS}
use Rattle.call_table.specs.declared.forms.Form.{Form}
use Rattle.call_table.specs.declared.forms.Form.TheVariants.{AttributeList, NumberList, NameList, Payload}
use Rattle.call_table.specs.declared.gl_conditions.GlCondition.{GlCondition}
use Rattle.call_table.specs.declared.gl_conditions.GlCondition.TheVariants.{NoEnabledCapability, NoCapability, NegativeBox, NoEnvironment, NoStore, NoAlignment, NoContextParameter, NoIndex, NoBufferBit, WrongReadSides, NoReadKind, NoReadPair, DrawsNothing, WrongCount, NoTextureTarget, NoBufferTarget, NoRenderbufferTarget, NoFramebufferTarget, NoTextureParameter, NoCropParameter, NoImageKind, NoInternalFormat, NoLevel as NoGlLevel, WrongLevelSides, SomeBorder, OtherFormat, NoImagePair, NoImageVideo, NoCopiedVideo, NoDataVideo, NoStorageVideo, NoStorage, OutsideLevel, OtherLevelFormat, WrongCopiedSides, SomeCopiedBorder, NoInternalAlpha, CopiedOutsideLevel, NoLevelAlpha, NoUsage, NegativeSize, NoBufferBound, NegativePart, PartBehindEnd, NoBufferParameter, NoRenderbufferFormat, WrongStorageSides, NoRenderbufferParameter, NoAttachment, NoAttachedTarget, NoTextureNamed, NoRenderbufferNamed, SomeAttachedLevel, NoAttachedRenderbufferTarget, NoAttachmentParameter, NothingAttached, NoImage as NoTargetImage, NotRenderable}
use Rattle.call_table.specs.declared.gl_table.TheConstants.{GL_CALLS}
use Rattle.call_table.specs.declared.own_table.TheConstants.{OWN_CALLS}
use Rattle.call_table.specs.declared.roles.Role.{Role}
use Rattle.call_table.specs.declared.roles.Role.TheVariants.{Asks, Binds, Copies, CopiesPart, Draws, ReadsPixels, ClientWaits}

-- a place, and the name of the parameter that stands there
abbrev pub Parameter : Type 0
Parameter = ℕ × List ℕ

-- ---- EGL 1.5, chapter 3.
abbrev pub display : Parameter
display = (DISPLAY, codes "dpy")

abbrev pub config : Parameter
config = (CONFIG, codes "config")

-- what is named behind the display
abbrev pub named : List ℕ → List Parameter
named word = display ∷ (NAMED, word) ∷ []

abbrev pub attribute : List Parameter
attribute = (ATTRIBUTE, codes "attribute") ∷ []

abbrev pub surfaces : List Parameter
surfaces = (DRAW, codes "draw") ∷ (READ, codes "read") ∷ []

abbrev pub context : Parameter
context = (CONTEXT, codes "ctx")

-- whose pixels an image gets
abbrev pub source : List Parameter
source = (IMAGE_SOURCE, codes "target") ∷ (CLIENT_BUFFER, codes "buffer") ∷ named (codes "ctx")

-- what each condition looks at
abbrev pub egl_looks : EglCondition → List Parameter
egl_looks NoDisplay = display ∷ []
egl_looks NotInitialized = display ∷ []
egl_looks NoConfig = config ∷ []
egl_looks NoConfigAttribute = attribute
egl_looks NoSurfaceAttribute = attribute
egl_looks NoContextAttribute = attribute
egl_looks NoSyncAttribute = attribute
egl_looks NoWindowBit = config ∷ []
egl_looks NoWindow = (WINDOW, codes "win") ∷ []
egl_looks WindowUsed = (WINDOW, codes "win") ∷ []
egl_looks NoWindowVideo = config ∷ (WINDOW, codes "win") ∷ []
egl_looks NoPbufferVideo = config ∷ []
egl_looks NoSurface = named (codes "surface")
egl_looks NotDrawnTo = named (codes "surface")
egl_looks NoContext = named (codes "ctx")
egl_looks NoSync = named (codes "sync")
egl_looks NoImage = named (codes "image")
egl_looks NoSwapAttribute = attribute
egl_looks NoSwapBehavior = (VALUE, codes "value") ∷ []
egl_looks NoApi = (API, codes "api") ∷ []
egl_looks NoShare = display ∷ (SHARE_CONTEXT, codes "share_context") ∷ []
egl_looks ShareElsewhere = display ∷ (SHARE_CONTEXT, codes "share_context") ∷ []
egl_looks WrongSurface = display ∷ surfaces
egl_looks WrongContext = display ∷ context ∷ []
egl_looks WithoutContext = context ∷ []
egl_looks OneSurface = surfaces
egl_looks NotCompatible = display ∷ context ∷ surfaces
egl_looks ContextElsewhere = display ∷ context ∷ []
egl_looks SurfaceElsewhere = display ∷ surfaces
egl_looks NoReaddraw = (READDRAW, codes "readdraw") ∷ []
egl_looks NoFence = (SYNC_TYPE, codes "type") ∷ []
egl_looks NoContextHere = display ∷ []
egl_looks SomeFlags = (FLAGS, codes "flags") ∷ []
egl_looks NoImageSource = (IMAGE_SOURCE, codes "target") ∷ []
egl_looks NoPixels = source
egl_looks NotComplete = source
egl_looks NoLevel = source
egl_looks Sibling = source
-- lists of attributes and the state alone
egl_looks x = []

-- a wait by the client reads its flags and its timeout, and no condition does
abbrev pub egl_role_reads : Role → List Parameter
egl_role_reads ClientWaits = (FLAGS, codes "flags") ∷ (TIMEOUT, codes "timeout") ∷ []
egl_role_reads r = []

-- the one call that is never refused and has a number
abbrev pub egl_answers : EglKind → List Parameter
egl_answers GetDisplay = (DISPLAY_ID, codes "display_id") ∷ []
egl_answers k = []

abbrev pub egl_reads : EglKind → List (EglCondition × EglError) → Role → List Parameter
egl_reads k rules r = flat_map (λ rule. egl_looks rule.0) rules ++ egl_role_reads r ++ egl_answers k

-- ---- OpenGL ES 1.1, chapters 2 to 6, OES_draw_texture, OES_framebuffer_object and OES_EGL_image.
abbrev pub target : List Parameter
target = (TARGET, codes "target") ∷ []

abbrev pub pname : List Parameter
pname = (BOUND_PNAME, codes "pname") ∷ []

abbrev pub level : Parameter
level = (LEVEL, codes "level")

abbrev pub internal_format : Parameter
internal_format = (INTERNAL_FORMAT, codes "internalformat")

abbrev pub pixels : List Parameter
pixels = (IMAGE_FORMAT, codes "format") ∷ (IMAGE_TYPE, codes "type") ∷ []

abbrev pub image_sides : List Parameter
image_sides = (IMAGE_WIDTH, codes "width") ∷ (IMAGE_HEIGHT, codes "height") ∷ []

abbrev pub copied_sides : List Parameter
copied_sides = (COPIED_WIDTH, codes "width") ∷ (COPIED_HEIGHT, codes "height") ∷ []

abbrev pub offsets : List Parameter
offsets = (X_OFFSET, codes "xoffset") ∷ (Y_OFFSET, codes "yoffset") ∷ []

abbrev pub buffer_part : List Parameter
buffer_part = (BUFFER_OFFSET, codes "offset") ∷ (BUFFER_PART_SIZE, codes "size") ∷ []

abbrev pub stored_sides : List Parameter
stored_sides = (STORED_WIDTH, codes "width") ∷ (STORED_HEIGHT, codes "height") ∷ []

abbrev pub corner : List Parameter
corner = (X, codes "x") ∷ (Y, codes "y") ∷ []

abbrev pub sides : List Parameter
sides = (WIDTH, codes "width") ∷ (HEIGHT, codes "height") ∷ []

abbrev pub read_pixels : List Parameter
read_pixels = (FORMAT, codes "format") ∷ (TYPE, codes "type") ∷ []

abbrev pub gl_looks : GlCondition → List Parameter
gl_looks NoEnabledCapability = (CAP, codes "cap") ∷ []
gl_looks NoCapability = (CAP, codes "cap") ∷ []
-- a box has a corner too
gl_looks NegativeBox = corner ++ sides
gl_looks NoEnvironment = (TARGET, codes "target") ∷ (ENVIRONMENT_PNAME, codes "pname") ∷ (ENVIRONMENT_PARAM, codes "param") ∷ []
gl_looks NoStore = (PNAME, codes "pname") ∷ []
gl_looks NoAlignment = (PARAM, codes "param") ∷ []
gl_looks NoContextParameter = (PNAME, codes "pname") ∷ []
gl_looks NoIndex = (PNAME, codes "pname") ∷ (INDEX, codes "index") ∷ []
gl_looks NoBufferBit = (MASK, codes "mask") ∷ []
gl_looks WrongReadSides = sides
gl_looks NoReadKind = read_pixels
gl_looks NoReadPair = read_pixels
gl_looks DrawsNothing = (DRAWN_WIDTH, codes "width") ∷ (DRAWN_HEIGHT, codes "height") ∷ []
gl_looks WrongCount = (COUNT, codes "n") ∷ []
gl_looks NoTextureTarget = target
gl_looks NoBufferTarget = target
gl_looks NoRenderbufferTarget = target
gl_looks NoFramebufferTarget = target
gl_looks NoBufferBound = target
gl_looks NoTextureParameter = (BOUND_PNAME, codes "pname") ∷ (BOUND_PARAM, codes "param") ∷ []
gl_looks NoCropParameter = pname
gl_looks NoBufferParameter = pname
gl_looks NoRenderbufferParameter = pname
gl_looks NoImageKind = pixels
gl_looks NoImagePair = pixels
gl_looks NoInternalFormat = internal_format ∷ []
gl_looks NoGlLevel = level ∷ []
gl_looks WrongLevelSides = level ∷ image_sides
gl_looks SomeBorder = (BORDER, codes "border") ∷ []
gl_looks OtherFormat = internal_format ∷ (IMAGE_FORMAT, codes "format") ∷ []
gl_looks NoImageVideo = image_sides ++ pixels
gl_looks NoStorage = level ∷ []
gl_looks OutsideLevel = level ∷ offsets ++ (PART_WIDTH, codes "width") ∷ (PART_HEIGHT, codes "height") ∷ []
gl_looks OtherLevelFormat = level ∷ (IMAGE_FORMAT, codes "format") ∷ []
gl_looks WrongCopiedSides = level ∷ copied_sides
gl_looks SomeCopiedBorder = (COPIED_BORDER, codes "border") ∷ []
gl_looks NoInternalAlpha = internal_format ∷ []
gl_looks NoCopiedVideo = internal_format ∷ copied_sides
gl_looks CopiedOutsideLevel = level ∷ offsets ++ (COPIED_PART_WIDTH, codes "width") ∷ (COPIED_PART_HEIGHT, codes "height") ∷ []
gl_looks NoLevelAlpha = level ∷ []
gl_looks NoUsage = (BUFFER_USAGE, codes "usage") ∷ []
gl_looks NegativeSize = (BUFFER_SIZE, codes "size") ∷ []
gl_looks NoDataVideo = (BUFFER_SIZE, codes "size") ∷ []
gl_looks NegativePart = buffer_part
gl_looks PartBehindEnd = target ++ buffer_part
gl_looks NoRenderbufferFormat = (STORED_FORMAT, codes "internalformat") ∷ []
gl_looks WrongStorageSides = stored_sides
gl_looks NoStorageVideo = (STORED_FORMAT, codes "internalformat") ∷ stored_sides
gl_looks NoAttachment = (ATTACHMENT, codes "attachment") ∷ []
gl_looks NoAttachedTarget = (ATTACHED_TARGET, codes "textarget") ∷ (ATTACHED_NAME, codes "texture") ∷ []
gl_looks NoTextureNamed = (ATTACHED_NAME, codes "texture") ∷ []
gl_looks SomeAttachedLevel = (ATTACHED_LEVEL, codes "level") ∷ (ATTACHED_NAME, codes "texture") ∷ []
gl_looks NoAttachedRenderbufferTarget = (ATTACHED_TARGET, codes "renderbuffertarget") ∷ []
gl_looks NoRenderbufferNamed = (ATTACHED_NAME, codes "renderbuffer") ∷ []
gl_looks NoAttachmentParameter = (ATTACHMENT_PNAME, codes "pname") ∷ []
gl_looks NothingAttached = (ATTACHMENT, codes "attachment") ∷ (ATTACHMENT_PNAME, codes "pname") ∷ []
gl_looks NoTargetImage = (TARGET_IMAGE, codes "image") ∷ []
gl_looks NotRenderable = (TARGET_IMAGE, codes "image") ∷ []
-- lists, the state alone, and NegativeName: of a name that is bound its role tells the parameter
gl_looks x = []

-- the parameter for a name of each kind
abbrev pub name_word : NameKind → List ℕ
name_word Texture = codes "texture"
name_word Buffer = codes "buffer"
name_word Renderbuffer = codes "renderbuffer"
name_word Framebuffer = codes "framebuffer"

-- names that are asked for or bound, and where pixels are drawn, read or copied from
abbrev pub gl_role_reads : Role → List Parameter
gl_role_reads (Asks names) = (ASKED_NAME, name_word names) ∷ []
gl_role_reads (Binds names) = (BOUND_NAME, name_word names) ∷ []
gl_role_reads Draws = corner
gl_role_reads ReadsPixels = corner
gl_role_reads Copies = (COPIED_X, codes "x") ∷ (COPIED_Y, codes "y") ∷ []
gl_role_reads CopiesPart = (COPIED_PART_X, codes "x") ∷ (COPIED_PART_Y, codes "y") ∷ []
gl_role_reads r = []

-- colours, which are never refused
abbrev pub colors : List Parameter
colors = (RED, codes "red") ∷ (GREEN, codes "green") ∷ (BLUE, codes "blue") ∷ (ALPHA, codes "alpha") ∷ []

abbrev pub gl_sets : GlKind → List Parameter
gl_sets ClearColorx = colors
gl_sets Color4x = colors
gl_sets ColorMask = colors
gl_sets k = []

abbrev pub gl_reads : GlKind → List (GlCondition × GlError) → Role → List Parameter
gl_reads k rules r = flat_map (λ rule. gl_looks rule.0) rules ++ gl_role_reads r ++ gl_sets k

-- ---- This project's own calls: those that nothing refuses have names of its own.
abbrev pub own_numbers : OwnKind → List Parameter
own_numbers Post = (POSTED, codes "N") ∷ []
own_numbers Await = (POSTED, codes "N") ∷ []
own_numbers ReadFront = (FRONT, codes "window") ∷ []
own_numbers k = []

abbrev pub own_reads : OwnKind → List (GlCondition × GlError) → List Parameter
own_reads k rules = flat_map (λ rule. gl_looks rule.0) rules ++ own_numbers k

-- ---- The names of a row's numbers, in the order of their places: lists and bytes stand in none.
abbrev pub has_place : Form → Bool
has_place AttributeList = false
has_place NumberList = false
has_place NameList = false
has_place Payload = false
has_place form = true

abbrev pub numbered : List Form → List (List ℕ) → List (List ℕ)
numbered (form ∷ forms) (word ∷ words) = if has_place form then word ∷ numbered forms words else numbered forms words
numbered forms words = []

-- ---- A parameter stands at its place among the words of a row.
abbrev pub stands_in : List (List ℕ) → Parameter → Bool
stands_in words p = bytes_eq (slice_index_or words p.0 []) p.1

-- there is neither depth nor stencil, so these numbers are dropped
abbrev pub is_dropped : List ℕ → Bool
is_dropped word = bytes_eq word (codes "z") || bytes_eq word (codes "depth") || bytes_eq word (codes "s")

-- each word, from a place on, is that of a number that is read there
abbrev pub are_read : List Parameter → ℕ → List (List ℕ) → Bool
are_read reads place [] = true
are_read reads place (word ∷ words) = (is_dropped word || list_any (λ p. (p.0 == place) && bytes_eq p.1 word) reads) && are_read reads (place + 1) words

abbrev pub agree : List (List ℕ) → List Parameter → Bool
agree words reads = list_all (stands_in words) reads && are_read reads 0 words

-- ---- The same of each row of the tables.
abbrev pub egl_rows_agree : Bool
egl_rows_agree = list_all (λ r. agree (numbered r.2.now (map (λ w. w.now) r.3.now)) (egl_reads r.1 r.4.now r.5)) EGL_CALLS

abbrev pub gl_rows_agree : Bool
gl_rows_agree = list_all (λ r. agree (numbered r.2.now (map (λ w. w.now) r.3.now)) (gl_reads r.1 r.4.now r.5)) GL_CALLS

abbrev pub own_rows_agree : Bool
own_rows_agree = list_all (λ r. agree (numbered r.2.now (map (λ w. w.now) r.3.now)) (own_reads r.1 r.4.now)) OWN_CALLS
