pub mod Responder
