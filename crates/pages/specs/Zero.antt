-- A payload that nothing was written to.
use Rattle.std.specs.Prelude.{replicate}
use Rattle.pages.specs.declared.payload.Kind.{Kind}
use Rattle.pages.specs.declared.payload.Payload.{Payload}

-- the payload of 4,056 zero bytes
unfoldable pub zero_payload : Kind → Payload
zero_payload kind = record { kind = kind; bytes = replicate 4056 0 }
